-- `checklist_marks::file_sent` meets its contract. Assumes nothing.
use Rattle.std.proofs.lemmas.Result.{err_from_is_err_and}
use Rattle.checklist_frame.specs.declared.Mark.TheVariants.{Sent}
use Rattle.checklist_meaning.specs.Questions.{file_sent}
use Rattle.checklist_marks.proofs.Ends.{asked-refused, sent-ends}
use Rattle.checklist_marks.proofs.file_sent.Goals as goal

pub returns-in_err-sent : goal.returns-in_err-sent
returns-in_err-sent c =
    let p = err_from_is_err_and c.from_residual.result c.from_residual.ensures.1 in
    rw (p.1, p.2) (asked-refused c.args.table.now (file_sent c.args.file) Sent c.in_err-sent.ensures)

pub returns : goal.returns
returns c = sent-ends c.args.table.now c.args.file c.in_ok-sent.ensures c.add_mark.ensures
