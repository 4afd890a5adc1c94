-- `occurring::mark_entries` meets its contract. Assumes nothing.
use mathlib.Core.Path.{◌≡◌, ◌∙◌, ap}
use lib.ListN.{length, take}
use lib.Seq.{take_all}
use Rattle.theory.specs.Limits.{document}
use Rattle.table.specs.Rules.{numbers}
use Rattle.table.proofs.Entries.{entries-are}
use Rattle.occurring.proofs.Marks.{marked-none, front-next}
use Rattle.occurring.proofs.mark_entries.Goals as goal

pub loop-a-init : goal.loop-a-init
loop-a-init c = marked-none _

pub loop-a-preserved : goal.loop-a-preserved
loop-a-preserved c =
    let xs = take c.negative_end-n.result c.args.rule.entries in
    rw c.mark.ensures (front-next xs c.loop-a.a-index _ _ c.loop-a-test.true c.loop-a.invariant)

pub returns : goal.returns
returns c =
    let r = c.args.rule in
    let long : length r.entries ≡ document.entries = c.well_formed.0.1.1.1.1.1.1.0.1.0.1 in
    let all = ap numbers (take_all c.loop-a.a-index (take c.negative_end-n.result r.entries) c.loop-a-test.false)
    ∙ entries-are r document.entries long _ c.negative_end-n.ensures in
    rw all at c.loop-a.invariant
