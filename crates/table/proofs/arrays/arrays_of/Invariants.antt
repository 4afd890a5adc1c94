use Prim.Native.Nat.{◌≤◌}
use Rattle.theory.specs.Limits.{document}
use Rattle.table.specs.Words.{rules_of, depth_at}
use Rattle.table.proofs.LabelArrays.{Read}
use Rattle.table.proofs.arrays.arrays_of.Given as goal

abbrev pub invariant-loop-left : goal.invariant-loop-left
invariant-loop-left l = (l.left ≤ document.slots) × Read (rules_of l.table) (depth_at l.table) l.left l.flags l.depths l.slots

abbrev pub decreases-loop-left : goal.decreases-loop-left
decreases-loop-left l = l.left
