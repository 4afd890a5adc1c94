-- `file_loading::entries_at` meets its contract. Assumes nothing.
use Prim.Native.Nat.{◌+◌, ◌*◌}
use Rattle.table.specs.Rules.{no_atom}
use Rattle.file_blocks.specs.Words.{word_at}
use Rattle.file_loading.specs.Reading.{atom}
use Rattle.file_loading.proofs.Made.{made-at}
use Rattle.file_loading.proofs.Slots.{entries-read}
use borrow.Author.Rules.{rules}
use Rattle.file_loading.proofs.entries_at.Goals as goal

pub returns : goal.returns
returns c =
    let a = c.args in
    let made = c.from_fn.ensures.items in
    entries-read a.bytes.now a.at c.from_fn.result made.long
    (made-at (λ j. atom (word_at a.bytes.now (a.at + 6 + 2 * j))) made (λ x y q called. search rules) no_atom)
