use Prim.Native.Nat.{◌≤◌}
use Rattle.theory.specs.Limits.{document}
use Rattle.table.specs.Rules.{program_of}
use Rattle.table.specs.Words.{rules_of}
use Rattle.relations.proofs.Passes.{Following}
use Rattle.relations.proofs.following.Given as goal

abbrev pub invariant-loop-i : goal.invariant-loop-i
invariant-loop-i l = (l.i ≤ document.slots) × Following (program_of (rules_of l.table)) l.a.0 document.atoms l.i l.flags
