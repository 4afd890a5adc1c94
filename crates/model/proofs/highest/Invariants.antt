use Rattle.model.proofs.Top.{HighestBelow}
use Rattle.model.proofs.highest.Given as goal

abbrev pub invariant-loop-n : goal.invariant-loop-n
invariant-loop-n l = HighestBelow l.strata l.n-index l.top
