-- `file_records::write_entries` meets its contract. The loop keeps: the entries passed are written. Assumes nothing.
use native.Mathlib.Omega.{arith}
use mathlib.Core.Path.{◌≡◌}
use lib.ListN.{length}
use lib.Seq.{take_all}
use Rattle.theory.specs.Limits.{document}
use Rattle.fields.proofs.Wrote.{wrote_nothing, wrote-to}
use Rattle.file_blocks.specs.Words.{words}
use Rattle.file_records.proofs.Records.{wrote-next-entry}
use borrow.Author.Rules.{rules}
use Rattle.file_records.proofs.write_entries.Goals as goal

pub loop-j-init : goal.loop-j-init
unfolding words
loop-j-init c = wrote-to _ (omega arith) (wrote_nothing (omega arith))

pub loop-j-preserved : goal.loop-j-preserved
loop-j-preserved c =
    let entries = c.args.entries in
    let long : length entries ≡ document.entries = search rules in
    wrote-next-entry entries c.loop-j.j (omega arith) c.loop-j.invariant c.write_word.ensures

pub returns : goal.returns
returns c =
    let l = c.loop-j in
    let entries = c.args.entries in
    let long : length entries ≡ document.entries = search rules in
    let all = take_all l.j entries (omega arith) in
    wrote-to _ (omega arith) (rw all at l.invariant)
