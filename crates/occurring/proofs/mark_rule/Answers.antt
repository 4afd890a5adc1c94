-- `occurring::mark_rule` meets its contract. Assumes nothing.
use Rattle.occurring.proofs.Marks.{marked-free, marked-held}
use Rattle.occurring.proofs.mark_rule.Goals as goal

pub returns-then-rule-eq0 : goal.returns-then-rule-eq0
returns-then-rule-eq0 c = marked-free c.args.rule _ c.if-rule-eq0.true

pub returns : goal.returns
returns c =
    marked-held c.args.rule _ _ _ c.if-rule-eq0.false c.mark.ensures
    c.mark_entries.ensures
