-- `relations::mark_head` meets its contract. Assumes nothing.
use mathlib.Core.Path.{sym, ◌∙◌, ap}
use Rattle.relations.specs.Marks.{mark_if}
use Rattle.relations.proofs.mark_head.Goals as goal

pub returns-then-not-has_entry : goal.returns-then-not-has_entry
returns-then-not-has_entry c =
    sym (ap (λ b. mark_if b c.args.flags.now c.args.rule.head.0)
    (sym c.has_entry.ensures ∙ c.if-not-has_entry.true))

pub returns : goal.returns
returns c =
    c.mark.ensures
    ∙ sym (ap (λ b. mark_if b c.args.flags.now c.args.rule.head.0)
    (sym c.has_entry.ensures ∙ c.if-not-has_entry.false))
