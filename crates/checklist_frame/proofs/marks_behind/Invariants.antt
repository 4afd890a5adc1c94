use Rattle.table.specs.Rules.{book_of}
use Rattle.table.specs.Words.{rules_of}
use Rattle.checklist_frame.proofs.Slots.{MarksTo}
use Rattle.checklist_frame.proofs.marks_behind.Given as goal

abbrev pub invariant-loop-s : goal.invariant-loop-s
invariant-loop-s l = MarksTo (book_of (rules_of l.table)) l.n l.s
