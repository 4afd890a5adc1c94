-- `sheet_lines::read::rule` meets its contract: a number, then `:`, then the lists. Assumes nothing.
use mathlib.Core.Path.{sym, ◌∙◌, ap}
use lib.ListN.{drop}
use Rattle.tokens.specs.Tokens.{tokens}
use Rattle.tokens.specs.Numerals.{numeral}
use Rattle.tokens.specs.Tokens.{one}
use Rattle.sheet_lines.specs.Readings.{whether}
use Rattle.tokens.specs.Parts.{first_of, rest_of, as_option}
use Rattle.sheet_lines.proofs.Commands.{rule-no-head, rule-no-sign, rule-is}
use Rattle.sheet_lines.proofs.Answers.{as_read}
use Rattle.sheet_lines.proofs.read.rule.Goals as goal

-- the tokens of the rule are ts; the first is read as a number, the second as a sign, and the rest are the lists
pub returns-in_default-clause-answers : goal.returns-in_default-clause-answers
returns-in_default-clause-answers g c =
    let ts = tokens (drop c.args.place.offset c.args.line.now) in
    let head = c.numeral.ensures ∙ ap numeral (c.text.ensures ∙ c.next_token-h.ensures.first) in
    λ f rule makes. as_read c.plain.ensures.answers
    (ap whether (rule-no-head f ts (sym head ∙ ap as_option c.in_default.is)))

pub returns-then-not-is-clause-answers : goal.returns-then-not-is-clause-answers
returns-then-not-is-clause-answers g c =
    let ts = tokens (drop c.args.place.offset c.args.line.now) in
    let second = c.text-2.ensures ∙ c.next_token-c.ensures.first ∙ ap first_of c.next_token-h.ensures.rest in
    let sign = c.is.ensures ∙ ap (one 58) second in
    λ f rule makes. as_read c.plain-then-not-is.ensures.answers
    (ap whether (rule-no-sign f ts (sym sign ∙ c.if-not-is.true)))

pub returns-clause-answers : goal.returns-clause-answers
returns-clause-answers g c =
    let ts = tokens (drop c.args.place.offset c.args.line.now) in
    let head = c.numeral.ensures ∙ ap numeral (c.text.ensures ∙ c.next_token-h.ensures.first) in
    let second = c.text-2.ensures ∙ c.next_token-c.ensures.first ∙ ap first_of c.next_token-h.ensures.rest in
    let behind = c.next_token-c.ensures.rest ∙ ap rest_of c.next_token-h.ensures.rest in
    let sign = c.is.ensures ∙ ap (one 58) second in
    λ f rule makes.
    let same = makes c.in-Some.head c.command.result c.command.ensures in
    as_read (c.lists.ensures.answers f c.in-Some.head rule same)
    (ap whether (rule-is f ts c.in-Some.head _
    (sym head ∙ ap as_option c.in-Some.is) (sym sign ∙ c.if-not-is.false) behind))
