-- `model::holds_valid` answers whether a slot holds a valid rule. Assumes nothing.
use Rattle.std.proofs.Common.{◌∙◌}
use Rattle.model.proofs.Visits.{none-valid, rule-decides}
use Rattle.model.proofs.holds_valid.Goals as goal

pub returns-then-rule-ne1 : goal.returns-then-rule-ne1
returns-then-rule-ne1 c = none-valid _ c.args.rule c.if-rule-ne1.true

pub returns : goal.returns
returns c = c.valid.ensures ∙ rule-decides _ c.args.rule c.if-rule-ne1.false
