-- `well_formed::note` meets its contract. Past the end a store changes nothing. Assumes nothing.
use mathlib.Core.Path.{sym}
use lib.Seq.{set_out}
use borrow.Author.Rules.{rules}
use Rattle.well_formed.proofs.note.Goals as goal

pub returns-else-k-s : goal.returns-else-k-s
returns-else-k-s c = sym (set_out _ _ _ (search rules))
