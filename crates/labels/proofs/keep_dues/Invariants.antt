use Prim.Native.Nat.{◌≤◌}
use Rattle.theory.specs.Limits.{document}
use Rattle.table.specs.Sets.{member, number}
use Rattle.labels.proofs.Keeping.{Walked}
use Rattle.labels.proofs.keep_dues.Given as goal

abbrev pub invariant-loop-i : goal.invariant-loop-i
invariant-loop-i l = (l.i ≤ document.slots) × Walked l.initial.table (member l.model) (number l.depths) l.i l.table l.given
