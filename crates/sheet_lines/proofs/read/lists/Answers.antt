-- `sheet_lines::read::lists` meets its contract: the numbers end with the line, at `!`, or at a token that spoils the
-- form; and so again behind `!`. Assumes nothing.
use Prim.Native.Nat.{ℕ, ◌+◌, ◌-◌, ◌≤◌}
use native.Mathlib.Omega.{arith}
use mathlib.Core.Path.{◌≡◌, refl, sym, ◌∙◌, ap}
use mathlib.Core.List.{List, []}
use lib.ListN.{length, drop, replicate}
use lib.Seq.{sets}
use Rattle.tokens.specs.Tokens.{tokens}
use Rattle.tokens.specs.Tokens.{one}
use Rattle.tokens.specs.Parts.{first_of, rest_of, empty}
use Rattle.sheet_lines.specs.Parts.{leading_numbers, past_numbers}
use Rattle.sheet_lines.proofs.Commands.{numbers-length}
use Rattle.sheet_lines.proofs.Answers.{as_read, said-over, said-spoiled, said-parted, said-parted-spoiled}
use Rattle.sheet_lines.proofs.Answers.{lists-answer, rest-length}
use Rattle.sheet_lines.proofs.read.lists.Goals as goal

-- there is room for what is behind the positives, and for both lists
module _ (ts : List (List ℕ)) (few : length ts ≤ 60) where
  room : length (leading_numbers ts) + length (rest_of (past_numbers ts)) ≤ 60
  room = omega (arith, numbers-length ts, rest-length (past_numbers ts))

  size : length (leading_numbers ts) + length (leading_numbers (rest_of (past_numbers ts))) ≤ 60
  size = omega (arith, room, numbers-length (rest_of (past_numbers ts)))

-- ts are the tokens of both lists, past what follows the positives, and behind the tokens behind its first
pub returns-then-ended-clause-answers : goal.returns-then-ended-clause-answers
returns-then-ended-clause-answers c =
    let ts = tokens (drop c.args.place.offset c.args.line.now) in
    let no_more = c.ended.ensures ∙ ap empty c.collect-p.ensures.rest in
    let p = c.collect-p in
    let count : p.result.count ≡ length (leading_numbers ts) = omega (arith, p.ensures.count) in
    let size : length (leading_numbers ts) + length {A = ℕ} [] ≤ 60 =
    omega (arith, numbers-length ts, c.requires.line_len_bound) in
    λ f h rule same. as_read
    (lists-answer f h c.args.command rule same
    p.result.next (leading_numbers ts) [] p.result.count 0 p.result.entries
    size count refl p.ensures.entries)
    (said-over f h ts (sym no_more ∙ c.if-ended.true))

pub returns-then-not-is-clause-answers : goal.returns-then-not-is-clause-answers
returns-then-not-is-clause-answers c =
    let ts = tokens (drop c.args.place.offset c.args.line.now) in
    let no_more = c.ended.ensures ∙ ap empty c.collect-p.ensures.rest in
    let first = c.text.ensures ∙ c.next_token-t.ensures.first ∙ ap first_of c.collect-p.ensures.rest in
    let bang = c.is.ensures ∙ ap (one 33) first in
    λ f h rule same. as_read c.plain.ensures.answers
    (said-spoiled f h ts
    (sym no_more ∙ c.if-ended.false) (sym bang ∙ c.if-not-is.true))

pub collect-n-requires-clause-line_bound : goal.collect-n-requires-clause-line_bound
collect-n-requires-clause-line_bound c =
    let ts = tokens (drop c.args.place.offset c.args.line.now) in
    let behind = c.next_token-t.ensures.rest ∙ ap rest_of c.collect-p.ensures.rest in
    let p = c.collect-p in
    omega (arith, ap length behind, room ts c.requires.line_len_bound, p.ensures.count)

pub returns-then-not-ended-clause-answers : goal.returns-then-not-ended-clause-answers
returns-then-not-ended-clause-answers c =
    let ts = tokens (drop c.args.place.offset c.args.line.now) in
    let first = c.text.ensures ∙ c.next_token-t.ensures.first ∙ ap first_of c.collect-p.ensures.rest in
    let behind = c.next_token-t.ensures.rest ∙ ap rest_of c.collect-p.ensures.rest in
    let bang = c.is.ensures ∙ ap (one 33) first in
    let no-more-behind = c.ended-2.ensures ∙ ap empty (c.collect-n.ensures.rest ∙ ap past_numbers behind) in
    λ f h rule same. as_read c.plain-then-not-ended.ensures.answers
    (said-parted-spoiled f h ts
    (sym bang ∙ c.if-not-is.false) (sym no-more-behind ∙ c.if-not-ended.true))

pub returns-clause-answers : goal.returns-clause-answers
returns-clause-answers c =
    let ts = tokens (drop c.args.place.offset c.args.line.now) in
    let first = c.text.ensures ∙ c.next_token-t.ensures.first ∙ ap first_of c.collect-p.ensures.rest in
    let behind = c.next_token-t.ensures.rest ∙ ap rest_of c.collect-p.ensures.rest in
    let bang = c.is.ensures ∙ ap (one 33) first in
    let no-more-behind = c.ended-2.ensures ∙ ap empty (c.collect-n.ensures.rest ∙ ap past_numbers behind) in
    let n = c.collect-n in
    let p = c.collect-p in
    let ps = leading_numbers ts in
    let ns = leading_numbers (rest_of (past_numbers ts)) in
    let count : p.result.count ≡ length ps = omega (arith, p.ensures.count) in
    let more : n.result.count - p.result.count ≡ length ns =
    omega (arith, n.ensures.count, ap (λ ts. length (leading_numbers ts)) behind) in
    let entries : n.result.entries ≡ sets (sets (replicate 60 0) 0 ps) p.result.count ns =
    n.ensures.entries
    ∙ ap (λ ts. sets p.result.entries p.result.count (leading_numbers ts)) behind
    ∙ ap (λ xs. sets xs p.result.count ns) p.ensures.entries in
    λ f h rule same. as_read
    (lists-answer f h c.args.command rule same
    n.result.next ps ns p.result.count (n.result.count - p.result.count) n.result.entries
    (size ts c.requires.line_len_bound) count more entries)
    (said-parted f h ts
    (sym bang ∙ c.if-not-is.false) (sym no-more-behind ∙ c.if-not-ended.false))
