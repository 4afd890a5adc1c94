-- `sheet_lines::read::numbered` meets its contract: the first token is the number where none follows it. Assumes
-- nothing.
use Prim.Native.Nat.{ℕ}
use mathlib.Core.Path.{sym, ◌∙◌, ap}
use mathlib.Core.List.{[]}
use mathlib.Core.Option.{Option}
use Rattle.tokens.specs.Numerals.{numeral}
use Rattle.sheet_lines.specs.Commands.{made}
use Rattle.sheet_lines.specs.Readings.{is, whether}
use Rattle.tokens.specs.Parts.{empty}
use Rattle.sheet_lines.proofs.Commands.{only-last, only-more}
use Rattle.sheet_lines.proofs.Answers.{as_read, made-read}
use Rattle.sheet_lines.proofs.read.numbered.Goals as goal

-- the first token is read as a number, and it is the only one where none is left
pub returns-then-not-ended-clause-answers : goal.returns-then-not-ended-clause-answers
returns-then-not-ended-clause-answers g c =
    let more = sym c.ended.ensures ∙ c.if-not-ended.true in
    λ f makes. as_read c.plain.ensures.answers
    (ap (λ (o : Option ℕ). whether (made f o)) (only-more _ (sym (ap empty c.next_token-t.ensures.rest) ∙ more)))

pub returns-in_default-clause-answers : goal.returns-in_default-clause-answers
returns-in_default-clause-answers g c =
    let last = sym c.ended.ensures ∙ c.if-not-ended.false in
    let number = c.numeral.ensures ∙ ap numeral (c.text.ensures ∙ c.next_token-t.ensures.first)
    ∙ only-last _ (sym (ap empty c.next_token-t.ensures.rest) ∙ last) in
    λ f makes. made-read f number c.in_default.is c.plain-in_default.ensures.answers

pub returns-clause-answers : goal.returns-clause-answers
returns-clause-answers g c =
    let last = sym c.ended.ensures ∙ c.if-not-ended.false in
    let number = c.numeral.ensures ∙ ap numeral (c.text.ensures ∙ c.next_token-t.ensures.first)
    ∙ only-last _ (sym (ap empty c.next_token-t.ensures.rest) ∙ last) in
    λ f makes.
    let same = makes c.in-Some.n c.command.result c.command.ensures [] [] in
    made-read f number c.in-Some.is (as_read c.plain-2.ensures.answers (ap is same))
