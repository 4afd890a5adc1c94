-- `checklist_marks::file_skipped` meets its contract. Assumes nothing.
use Rattle.std.proofs.lemmas.Result.{err_from_is_err_and}
use Rattle.checklist_frame.specs.declared.Mark.TheVariants.{Skipped}
use Rattle.checklist_meaning.specs.Questions.{file_skipped}
use Rattle.checklist_marks.proofs.Ends.{asked-refused, skipped_ends}
use Rattle.checklist_marks.proofs.file_skipped.Goals as goal

pub returns-in_err-skip : goal.returns-in_err-skip
returns-in_err-skip c =
    let p = err_from_is_err_and c.from_residual.result c.from_residual.ensures.1 in
    rw (p.1, p.2) (asked-refused c.args.table.now (file_skipped c.args.file) Skipped c.in_err-skip.ensures)

pub returns : goal.returns
returns c = skipped_ends c.args.table.now c.args.file c.in_ok-skip.ensures c.add_mark.ensures
