-- `muting::with_mark` meets its contract. Assumes nothing.
use Rattle.muting.proofs.Ends.{mark_on, mark-off}
use Rattle.muting.proofs.with_mark.Goals as goal

pub returns-then-muted : goal.returns-then-muted
returns-then-muted c = mark_on _ c.args.slot c.if-muted.true

pub returns-else-muted : goal.returns-else-muted
returns-else-muted c = mark-off _ c.args.slot c.if-muted.false
