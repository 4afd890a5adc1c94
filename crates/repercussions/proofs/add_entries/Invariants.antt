use Prim.Native.Nat.{◌-◌, ◌≤◌}
use Rattle.repercussions.proofs.Edges.{Entering}
use Rattle.repercussions.proofs.add_entries.Given as goal

abbrev pub invariant-loop-j : goal.invariant-loop-j
invariant-loop-j l = (l.j ≤ l.n) × Entering l.head.0 l.rule.entries l.j l.initial.from l.initial.to l.initial.at l.from l.to l.at

abbrev pub decreases-loop-j : goal.decreases-loop-j
decreases-loop-j l = l.n - l.j
