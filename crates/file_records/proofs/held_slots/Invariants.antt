use Rattle.table.specs.Rules.{book_of}
use Rattle.table.specs.Words.{rules_of}
use Rattle.file_records.proofs.Held.{Noting}
use Rattle.file_records.proofs.held_slots.Given as goal

abbrev pub invariant-loop-i : goal.invariant-loop-i
invariant-loop-i l = Noting (book_of (rules_of l.table)) l.i l.count l.slots
