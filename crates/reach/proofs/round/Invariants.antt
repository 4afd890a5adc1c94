use Prim.Native.Nat.{◌≤◌}
use Rattle.reach.specs.Rounds.{Round}
use Rattle.reach.proofs.round.Given as goal

abbrev pub invariant-loop-i : goal.invariant-loop-i
invariant-loop-i l = (l.i ≤ l.n) × Round l.from l.to l.count l.start.0 l.i l.initial.flags l.flags l.marked
