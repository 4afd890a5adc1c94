-- `queries::answers::tell_rule` meets its contract. Assumes nothing.
use mathlib.Core.Path.{◌∙◌}
use Rattle.queries.proofs.Told.{told-muted, told-unmuted}
use Rattle.queries.proofs.answers.tell_rule.Goals as goal

pub returns-then-rule-gt1 : goal.returns-then-rule-gt1
returns-then-rule-gt1 c = told-muted c.args.rule.state _ c.if-rule-gt1.true

pub returns : goal.returns
returns c =
    c.tell_spoiler.ensures ∙ told-unmuted c.args.rule.state _ c.if-rule-gt1.false
