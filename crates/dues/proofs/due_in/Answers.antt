-- `dues::due_in` meets its contract. Assumes nothing.
use mathlib.Core.Path.{◌∙◌, ap}
use Rattle.theory.specs.Labels.{place_over}
use Rattle.table.specs.Rules.{rule_of}
use Rattle.dues.proofs.Laws.{due-idle, due-spoilt, due-valid}
use Rattle.dues.proofs.due_in.Goals as goal

pub returns-then-rule-ne1 : goal.returns-then-rule-ne1
returns-then-rule-ne1 c = due-idle _ _ c.args.rule _ c.if-rule-ne1.true

pub returns-then-at-ne0 : goal.returns-then-at-ne0
returns-then-at-ne0 c =
    let r = c.args.rule in
    due-spoilt _ _ r _ c.if-rule-ne1.false _
    (c.place-at.ensures ∙ ap (place_over (rule_of r)) c.spoiler-found.ensures) c.if-at-ne0.true

pub returns : goal.returns
returns c =
    let r = c.args.rule in
    due-valid _ _ r _ c.if-rule-ne1.false _
    (c.place-at.ensures ∙ ap (place_over (rule_of r)) c.spoiler-found.ensures) c.if-at-ne0.false _
    c.level-n.ensures _ _ c.depth_due-depth.ensures
