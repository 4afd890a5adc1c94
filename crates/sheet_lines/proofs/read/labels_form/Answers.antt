-- `sheet_lines::read::labels_form` meets its contract. Assumes nothing.
use mathlib.Core.Path.{sym, ◌∙◌, ap}
use Rattle.sheet_lines.specs.Readings.{whether}
use Rattle.sheet_lines.proofs.Answers.{as_read}
use Rattle.sheet_lines.proofs.Commands.{labels-form-last, labels-form-more}
use Rattle.sheet_lines.proofs.read.labels_form.Goals as goal

pub returns-then-not-ended-clause-answers : goal.returns-then-not-ended-clause-answers
returns-then-not-ended-clause-answers c = as_read c.plain.ensures.answers
    (ap whether (labels-form-more _ (sym c.ended.ensures ∙ c.if-not-ended.true)))

pub returns-clause-answers : goal.returns-clause-answers
returns-clause-answers c = as_read c.plain-2.ensures.answers
    (ap whether (labels-form-last _ (sym c.ended.ensures ∙ c.if-not-ended.false)))
