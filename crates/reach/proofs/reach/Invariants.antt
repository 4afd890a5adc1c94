use Prim.Native.Nat.{◌+◌}
use Rattle.table.specs.Sets.{one_if}
use Rattle.reach.specs.Rounds.{outside}
use Rattle.reach.proofs.Rounds.{Rounds}
use Rattle.reach.proofs.reach.Given as goal

abbrev pub invariant-loop-again : goal.invariant-loop-again
invariant-loop-again l = Rounds l.from l.to l.count l.start.0 l.flags l.again

abbrev pub decreases-loop-again : goal.decreases-loop-again
decreases-loop-again l = outside l.flags + one_if l.again
