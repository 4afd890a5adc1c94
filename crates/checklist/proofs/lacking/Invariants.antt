use Prim.Native.Nat.{◌≤◌}
use Rattle.checklist.proofs.Asking.{LackingTo}
use Rattle.checklist.proofs.lacking.Given as goal

abbrev pub invariant-loop-i : goal.invariant-loop-i
invariant-loop-i l = (1 ≤ l.i) × LackingTo l.flags l.n l.i l.lacks
