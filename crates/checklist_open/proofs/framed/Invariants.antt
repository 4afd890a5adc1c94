use Rattle.checklist_open.proofs.Opening.{Staged}
use Rattle.checklist_open.proofs.framed.Given as goal

abbrev pub invariant-loop-i : goal.invariant-loop-i
invariant-loop-i l = Staged l.i l.words
