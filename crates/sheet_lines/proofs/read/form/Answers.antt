-- `sheet_lines::read::form` meets its contract: the first token says which command it is. Assumes nothing.
use Prim.Native.Nat.{ℕ, ◌≤◌}
use native.Mathlib.Omega.{arith}
use mathlib.Core.Path.{◌≡◌, refl, sym, ◌∙◌, ap}
use mathlib.Core.Bool.{Bool}
use mathlib.Core.List.{List}
use lib.ListN.{length, drop}
use Rattle.tokens.specs.Tokens.{tokens, one}
use Rattle.sheet_lines.specs.Commands.{add, remove, why, rule_form, replacement, only, made, labels_form, command}
use Rattle.sheet_lines.specs.Readings.{LINE, TOKENS, whether, command_of}
use Rattle.sheet_lines.specs.declared.Command.{Command}
use Rattle.sheet_lines.specs.declared.Command.TheVariants.{Add, Remove, Why}
use Rattle.tokens.specs.Parts.{first_of, rest_of}
use Rattle.tokens.proofs.Tokens.{tokens-bound}
use Rattle.sheet_lines.proofs.Commands.{form-add, form-remove, form-replace, form-why, form-labels, form-none}
use Rattle.sheet_lines.proofs.Answers.{as_read, rest-length}
use Rattle.sheet_lines.proofs.read.form.Goals as goal

-- what a test says of the first token; the code's command as it was made; how many tokens are behind the first
told : (b : ℕ) (ts : List (List ℕ)) {word : List ℕ} (r v : Bool) → word ≡ first_of ts → r ≡ one b word → r ≡ v
    → one b (first_of ts) ≡ v
told b ts r v first e h = sym (ap (one b) first) ∙ sym e ∙ h

as_made : (f : ℕ → Command) (h : ℕ) (x : Command) → x ≡ f h → (ps ns : List ℕ)
    → command_of x ps ns ≡ command_of (f h) ps ns
as_made f h x e ps ns = ap (λ (y : Command). command_of y ps ns) e

few : (from to : ℕ) (line : List ℕ) → tokens (drop to line) ≡ rest_of (tokens (drop from line))
    → length (drop from line) ≤ LINE → length (tokens (drop to line)) ≤ TOKENS
few from to line rest h =
    omega (arith, ap length rest, rest-length (tokens (drop from line)), tokens-bound (drop from line), h)

pub rule-requires-clause-line_len_bound : goal.rule-requires-clause-line_len_bound
rule-requires-clause-line_len_bound c =
    few c.args.place.offset c.next_token-t.result.next.offset c.args.line.now
    c.next_token-t.ensures.rest c.requires.line_len_bound

pub returns-then-is-clause-answers : goal.returns-then-is-clause-answers
unfolding command
returns-then-is-clause-answers c =
    let ts = tokens (drop c.args.place.offset c.args.line.now) in
    let first = c.text-word.ensures ∙ c.next_token-t.ensures.first in
    as_read (c.rule.ensures.answers add (λ h ps ns. refl) (as_made Add))
    (ap whether (ap (rule_form add) c.next_token-t.ensures.rest
    ∙ form-add _ (told 65 ts c.is.result _ first c.is.ensures c.if-is.true)))

pub returns-then-is-2-clause-answers : goal.returns-then-is-2-clause-answers
unfolding command
returns-then-is-2-clause-answers c =
    let ts = tokens (drop c.args.place.offset c.args.line.now) in
    let first = c.text-word.ensures ∙ c.next_token-t.ensures.first in
    as_read (c.numbered.ensures.answers remove (as_made Remove))
    (ap whether (ap (λ ts. made remove (only ts)) c.next_token-t.ensures.rest
    ∙ form-remove _
    (told 65 ts c.is.result _ first c.is.ensures c.if-is.false)
    (told 82 ts c.is-2.result _ first c.is-2.ensures c.if-is-2.true)))

pub replacement-requires-clause-line_len_bound : goal.replacement-requires-clause-line_len_bound
replacement-requires-clause-line_len_bound c =
    few c.args.place.offset c.next_token-t.result.next.offset c.args.line.now
    c.next_token-t.ensures.rest c.requires.line_len_bound

pub returns-then-is-3-clause-answers : goal.returns-then-is-3-clause-answers
unfolding command
returns-then-is-3-clause-answers c =
    let ts = tokens (drop c.args.place.offset c.args.line.now) in
    let first = c.text-word.ensures ∙ c.next_token-t.ensures.first in
    as_read c.replacement.ensures.answers
    (ap whether (ap replacement c.next_token-t.ensures.rest
    ∙ form-replace _
    (told 65 ts c.is.result _ first c.is.ensures c.if-is.false)
    (told 82 ts c.is-2.result _ first c.is-2.ensures c.if-is-2.false)
    (told 80 ts c.is-3.result _ first c.is-3.ensures c.if-is-3.true)))

pub returns-then-is-4-clause-answers : goal.returns-then-is-4-clause-answers
unfolding command
returns-then-is-4-clause-answers c =
    let ts = tokens (drop c.args.place.offset c.args.line.now) in
    let first = c.text-word.ensures ∙ c.next_token-t.ensures.first in
    as_read (c.numbered-then-is-4.ensures.answers why (as_made Why))
    (ap whether (ap (λ ts. made why (only ts)) c.next_token-t.ensures.rest
    ∙ form-why _
    (told 65 ts c.is.result _ first c.is.ensures c.if-is.false)
    (told 82 ts c.is-2.result _ first c.is-2.ensures c.if-is-2.false)
    (told 80 ts c.is-3.result _ first c.is-3.ensures c.if-is-3.false)
    (told 87 ts c.is-4.result _ first c.is-4.ensures c.if-is-4.true)))

pub returns-then-is-5-clause-answers : goal.returns-then-is-5-clause-answers
unfolding command
returns-then-is-5-clause-answers c =
    let ts = tokens (drop c.args.place.offset c.args.line.now) in
    let first = c.text-word.ensures ∙ c.next_token-t.ensures.first in
    as_read c.labels_form.ensures.answers
    (ap whether (ap labels_form c.next_token-t.ensures.rest
    ∙ form-labels _
    (told 65 ts c.is.result _ first c.is.ensures c.if-is.false)
    (told 82 ts c.is-2.result _ first c.is-2.ensures c.if-is-2.false)
    (told 80 ts c.is-3.result _ first c.is-3.ensures c.if-is-3.false)
    (told 87 ts c.is-4.result _ first c.is-4.ensures c.if-is-4.false)
    (told 76 ts c.is-5.result _ first c.is-5.ensures c.if-is-5.true)))

pub returns-clause-answers : goal.returns-clause-answers
unfolding command
returns-clause-answers c =
    let ts = tokens (drop c.args.place.offset c.args.line.now) in
    let first = c.text-word.ensures ∙ c.next_token-t.ensures.first in
    as_read c.plain.ensures.answers
    (ap whether (form-none _
    (told 65 ts c.is.result _ first c.is.ensures c.if-is.false)
    (told 82 ts c.is-2.result _ first c.is-2.ensures c.if-is-2.false)
    (told 80 ts c.is-3.result _ first c.is-3.ensures c.if-is-3.false)
    (told 87 ts c.is-4.result _ first c.is-4.ensures c.if-is-4.false)
    (told 76 ts c.is-5.result _ first c.is-5.ensures c.if-is-5.false)))
