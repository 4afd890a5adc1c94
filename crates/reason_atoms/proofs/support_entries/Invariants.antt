use Rattle.theory.specs.Limits.{document}
use Rattle.table.specs.Sets.{member, number}
use Rattle.table.specs.Words.{rules_of}
use Rattle.reason_atoms.specs.SupportEntries.{positives_at}
use Rattle.reason_atoms.proofs.SupportEntries.{CopiedBelow}
use Rattle.reason_atoms.proofs.support_entries.Given as goal

abbrev pub invariant-loop-i : goal.invariant-loop-i
invariant-loop-i l = CopiedBelow (positives_at (rules_of l.table) (member l.flags) (number l.slots)) document.atoms l.i l.counts l.entries
