-- `sheet_lines::read::replacement` meets its contract: a number, then a rule. Assumes nothing.
use mathlib.Core.Path.{◌≡◌, refl, sym, ◌∙◌, ap}
use Rattle.tokens.specs.Numerals.{numeral}
use Rattle.tokens.specs.Parts.{as_option}
use Rattle.sheet_lines.specs.Commands.{replace, rule_form}
use Rattle.sheet_lines.specs.Readings.{whether, command_of}
use Rattle.sheet_lines.specs.declared.Command.{Command}
use Rattle.sheet_lines.specs.declared.Command.TheVariants.{Replace}
use Rattle.sheet_lines.proofs.Commands.{replacement-no-slot, replacement-is}
use Rattle.sheet_lines.proofs.Answers.{as_read}
use borrow.Author.Rules.{rules}
use Rattle.sheet_lines.proofs.read.replacement.Goals as goal

-- the tokens behind `P` are ts, and the first is read as a number
pub returns-in_default-clause-answers : goal.returns-in_default-clause-answers
returns-in_default-clause-answers c =
    let slot_is = c.numeral.ensures ∙ ap numeral (c.text.ensures ∙ c.next_token-t.ensures.first) in
    as_read c.plain.ensures.answers
    (ap whether (replacement-no-slot _ (sym slot_is ∙ ap as_option c.in_default.is)))

pub returns-clause-answers : goal.returns-clause-answers
returns-clause-answers c =
    let slot_is = c.numeral.ensures ∙ ap numeral (c.text.ensures ∙ c.next_token-t.ensures.first) in
    let slot = c.in-Some.slot in
    as_read (c.rule.ensures.answers (replace slot) (λ h ps ns. refl) (λ h x post ps ns.
    let made : x ≡ Replace slot h = search (rules, post) in
    ap (λ (y : Command). command_of y ps ns) made))
    (ap whether (ap (rule_form (replace slot)) c.next_token-t.ensures.rest
    ∙ replacement-is _ slot (sym slot_is ∙ ap as_option c.in-Some.is)))
