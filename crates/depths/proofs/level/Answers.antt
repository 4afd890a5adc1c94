-- `depths::level` meets its contract. Assumes nothing.
use native.Mathlib.Omega.{arith}
use mathlib.Core.Path.{◌≡◌}
use lib.ListN.{length}
use Rattle.theory.specs.Limits.{document}
use Rattle.depths.proofs.Greatest.{walked_start, walked_next, walked-over}
use borrow.Author.Rules.{rules}
use Rattle.depths.proofs.level.Goals as goal

pub loop-a-init : goal.loop-a-init
loop-a-init c =
    let long : length c.args.rule.entries ≡ document.entries = c.well_formed.0.1.1.1.1.1.1.0.1.0.1 in
    walked_start _ c.args.rule document.entries _ long c.positive_end-n.ensures

pub loop-a-preserved : goal.loop-a-preserved
loop-a-preserved c =
    let l = c.loop-a in
    walked_next _ _ _ _ l.most l.a-index c.number_of-d.result _ c.loop-a-test.true (omega arith)
    c.number_of-d.ensures (search rules) c.max-most.ensures l.invariant

pub overflow_add-result : goal.overflow_add-result
overflow_add-result c = (let l = c.loop-a.invariant.small in search rules)

pub returns : goal.returns
returns c = (let e = walked-over _ _ _ _ _ _ c.loop-a-test.false c.loop-a.invariant in omega arith)
