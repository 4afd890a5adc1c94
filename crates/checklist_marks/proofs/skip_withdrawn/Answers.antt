-- `checklist_marks::skip_withdrawn` meets its contract. Assumes nothing.
use Rattle.std.proofs.lemmas.Result.{err_from_is_err_and}
use Rattle.checklist_frame.specs.declared.Mark.TheVariants.{Skipped}
use Rattle.checklist_meaning.specs.Questions.{skip_withdrawn}
use Rattle.checklist_marks.proofs.Ends.{asked-refused, withdrawn-ends}
use Rattle.checklist_marks.proofs.skip_withdrawn.Goals as goal

pub returns-in_err-standing : goal.returns-in_err-standing
returns-in_err-standing c =
    let p = err_from_is_err_and c.from_residual.result c.from_residual.ensures.1 in
    rw (p.1, p.2) (asked-refused c.args.table.now (skip_withdrawn c.args.file) Skipped c.in_err-standing.ensures)

pub returns : goal.returns
returns c = withdrawn-ends c.args.table.now c.args.file c.in_ok-standing.ensures c.remove_mark.ensures
