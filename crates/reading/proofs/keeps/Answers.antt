-- `reading::keeps` meets its contract. Assumes nothing.
use Rattle.reading.proofs.Seeking.{free-keeps, other-keeps, this-keeps}
use Rattle.reading.proofs.keeps.Goals as goal

pub returns-then-rule-eq0 : goal.returns-then-rule-eq0
returns-then-rule-eq0 c = (free-keeps c.args.rule _ _ c.if-rule-eq0.true)

pub returns-then-rule-a : goal.returns-then-rule-a
returns-then-rule-a c =
    other-keeps c.args.rule _ _ c.if-rule-eq0.false c.if-rule-a.true

pub returns : goal.returns
returns c =
    this-keeps c.args.rule _ _ c.if-rule-eq0.false c.if-rule-a.false
