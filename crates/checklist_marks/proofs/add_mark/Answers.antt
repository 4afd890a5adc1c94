-- `checklist_marks::add_mark` adds the fact of a mark. Assumes nothing.
use Rattle.checklist_marks.proofs.Ends.{mark-taken, mark-stands, mark-other}
use Rattle.checklist_marks.proofs.add_mark.Goals as goal

pub returns-in-Ok : goal.returns-in-Ok
returns-in-Ok c = mark-taken c.args.table.now _ c.add-added.ensures c.in-Ok.is

pub returns-then-refusal_number-eq5 : goal.returns-then-refusal_number-eq5
returns-then-refusal_number-eq5 c =
    mark-stands c.args.table.now _ c.add-added.ensures c.in-Err.is _ c.refusal_number.ensures
    c.if-refusal_number-eq5.true

pub returns-else-refusal_number-eq5 : goal.returns-else-refusal_number-eq5
returns-else-refusal_number-eq5 c =
    mark-other c.args.table.now _ c.add-added.ensures c.in-Err.is _ c.refusal_number.ensures
    c.if-refusal_number-eq5.false
