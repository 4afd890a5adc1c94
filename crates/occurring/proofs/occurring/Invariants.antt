use Prim.Native.Nat.{◌≤◌}
use Rattle.theory.specs.Limits.{document}
use Rattle.table.specs.Rules.{program_of}
use Rattle.table.specs.Words.{rules_of}
use Rattle.occurring.proofs.Marks.{Marking}
use Rattle.occurring.proofs.occurring.Given as goal

abbrev pub invariant-loop-i : goal.invariant-loop-i
invariant-loop-i l = (l.i ≤ document.slots) × Marking (program_of (rules_of l.table)) document.atoms l.i l.flags
