-- `reading::label_for` answers the label of an atom that is in, occurs, or neither. Assumes nothing.
use mathlib.Core.Path.{◌∙◌}
use Rattle.reading.proofs.Assembled.{label-for-in, label-for-out, label-for-absent}
use Rattle.reading.proofs.label_for.Goals as goal

pub returns-then-is_in : goal.returns-then-is_in
returns-then-is_in c = label-for-in _ _ _ _ c.if-is_in.true

pub returns-then-occurs : goal.returns-then-occurs
returns-then-occurs c = label-for-out _ _ _ _ c.if-is_in.false c.if-occurs.true

pub returns : goal.returns
returns c = c.absent.ensures ∙ label-for-absent _ _ _ _ c.if-is_in.false c.if-occurs.false
