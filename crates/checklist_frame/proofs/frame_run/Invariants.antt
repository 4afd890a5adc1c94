use Rattle.table.specs.Rules.{active_of}
use Rattle.table.specs.Words.{rules_of}
use Rattle.checklist_frame.proofs.Slots.{Stands}
use Rattle.checklist_frame.proofs.frame_run.Given as goal

abbrev pub invariant-loop-n : goal.invariant-loop-n
invariant-loop-n l = Stands (active_of (rules_of l.table)) l.n
