-- `depths::lower` meets its contract: test by test. Assumes nothing.
use mathlib.Core.Path.{sym, ◌∙◌}
use Rattle.theory.specs.Limits.{document}
use Rattle.depths.proofs.Lowering.{lower-none, lower-unknown, lower_high, lower-same, lower-invalid, lower-new}
use Rattle.depths.proofs.lower.Goals as goal

pub returns-then-rule-ne1 : goal.returns-then-rule-ne1
returns-then-rule-ne1 c = lower-none _ document.atoms c.args.rule _ c.if-rule-ne1.true

pub returns-then-not-below : goal.returns-then-not-below
returns-then-not-below c =
    lower-unknown _ document.atoms c.args.rule _ c.if-rule-ne1.false
    (sym c.below.ensures ∙ c.if-not-below.true)

pub returns-then-to-gt-ATOMS : goal.returns-then-to-gt-ATOMS
returns-then-to-gt-ATOMS c =
    lower_high _ document.atoms c.before.args.rule _ c.if-rule-ne1.false _ c.level-to.ensures
    c.if-to-gt-ATOMS.true

pub returns-then-not-falls : goal.returns-then-not-falls
returns-then-not-falls c =
    lower-same _ document.atoms c.before.args.rule _ c.if-rule-ne1.false _ c.level-to.ensures _
    c.number_of-number.ensures _ c.falls.ensures c.if-not-falls.true

pub returns-then-not-valid : goal.returns-then-not-valid
returns-then-not-valid c =
    lower-invalid _ document.atoms c.before.args.rule _ c.if-rule-ne1.false _ c.level-to.ensures _
    c.number_of-number.ensures _ c.falls.ensures
    (sym c.valid.ensures ∙ c.if-not-valid.true)

pub returns : goal.returns
returns c =
    lower-new _ document.atoms c.before.args.rule _ c.if-rule-ne1.false _ c.level-to.ensures _
    c.number_of-number.ensures _ c.falls.ensures
    (sym c.below.ensures ∙ c.if-not-below.false) c.if-to-gt-ATOMS.false c.if-not-falls.false
    (sym c.valid.ensures ∙ c.if-not-valid.false) _ c.set_number.ensures
