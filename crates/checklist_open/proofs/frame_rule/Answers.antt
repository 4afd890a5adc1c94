-- `checklist_open::frame_rule` gives the frame's rule of its slot. Assumes nothing.
use Rattle.checklist_open.proofs.Opening.{start-slot, file-slot}
use Rattle.checklist_open.proofs.frame_rule.Goals as goal

pub returns-then-i-eq0 : goal.returns-then-i-eq0
returns-then-i-eq0 c = start-slot c.args.i c.if-i-eq0.true

pub returns : goal.returns
returns c = (file-slot c.args.i c.if-i-eq0.false c.requires)
