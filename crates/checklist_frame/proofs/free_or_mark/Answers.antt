-- `checklist_frame::free_or_mark` tells whether the slot is free or holds the fact of a mark. Assumes nothing.
use mathlib.Core.Path.{sym, ◌∙◌}
use Rattle.theory.proofs.Lists.{is_not}
use Rattle.checklist_frame.proofs.Slots.{told-yes, free-passes, no-mark, mark-told}
use Rattle.checklist_frame.proofs.free_or_mark.Goals as goal

pub returns-then-rule-eq0 : goal.returns-then-rule-eq0
returns-then-rule-eq0 c = (let a = c.args in told-yes (free-passes a.n a.rule c.if-rule-eq0.true))

pub returns-then-not-is_mark : goal.returns-then-not-is_mark
returns-then-not-is_mark c =
    let a = c.args in
    is_not (no-mark a.n a.rule c.if-rule-eq0.false (sym c.is_mark.ensures ∙ c.if-not-is_mark.true))

pub returns : goal.returns
returns c =
    let a = c.args in
    mark-told a.n a.rule c.if-rule-eq0.false _ (sym c.is_mark.ensures ∙ c.if-not-is_mark.false)
    c.holds_fact.ensures
