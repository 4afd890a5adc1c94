-- `certificate::compare` meets its contract. Assumes nothing.
use mathlib.Core.Path.{sym, ◌∙◌}
use Rattle.certificate.proofs.Comparing.{other-depth, other-spoiler, no-level, head-out, head_in}
use Rattle.certificate.proofs.Walk.{head_of}
use Rattle.certificate.proofs.compare.Goals as goal

pub returns-then-depth-due : goal.returns-then-depth-due
returns-then-depth-due c = other-depth _ _ _ _ _ _ c.due_in-due.ensures _ _ c.if-depth-due.true

pub returns-then-spoiler-due : goal.returns-then-spoiler-due
returns-then-spoiler-due c = other-spoiler _ _ _ _ _ _ c.due_in-due.ensures _ _ c.if-spoiler-due.true

pub returns-then-due-eq0 : goal.returns-then-due-eq0
returns-then-due-eq0 c =
    no-level _ _ _ _ _ _ c.due_in-due.ensures _ _ c.if-depth-due.false c.if-spoiler-due.false c.if-due-eq0.true

pub returns-then-not-has : goal.returns-then-not-has
returns-then-not-has c =
    head-out _ _ _ _ _ _ c.due_in-due.ensures _ _ c.if-depth-due.false c.if-spoiler-due.false c.if-due-eq0.false _
    (head_of c.args.rule) (sym c.has.ensures ∙ c.if-not-has.true)

pub returns : goal.returns
returns c =
    head_in _ _ _ _ _ _ c.due_in-due.ensures _ _ c.if-depth-due.false c.if-spoiler-due.false c.if-due-eq0.false _
    (head_of c.args.rule) (sym c.has.ensures ∙ c.if-not-has.false)
    _ c.number_of.ensures
