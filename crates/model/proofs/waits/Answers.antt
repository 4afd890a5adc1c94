-- `model::waits` meets its contract. Assumes nothing.
use Rattle.std.proofs.Common.{◌∙◌}
use Rattle.model.proofs.Visits.{waits-idle, waits-unmuted}
use Rattle.model.proofs.waits.Goals as goal

pub returns-then-state-ne1 : goal.returns-then-state-ne1
returns-then-state-ne1 c = waits-idle _ _ _ _ _ c.if-state-ne1.true

pub returns : goal.returns
returns c = c.sought.ensures ∙ waits-unmuted _ _ _ _ _ c.if-state-ne1.false
