-- `model::highest` answers the highest number of the places passed, and so of all. Assumes nothing.
use Rattle.std.proofs.Common.{rules}
use Rattle.model.proofs.Top.{highest-start, highest-next, highest-end}
use Rattle.model.proofs.highest.Goals as goal

pub loop-n-init : goal.loop-n-init
loop-n-init c = highest-start _

pub loop-n-preserved : goal.loop-n-preserved
loop-n-preserved c =
    highest-next c.args.strata.now c.loop-n.n-index _ _ (search rules) c.loop-n.invariant c.max-top.ensures

pub returns : goal.returns
returns c = highest-end c.args.strata.now c.loop-n.n-index _ (search rules) c.loop-n.invariant
