-- `c_answers::wide_rule` tells a rule's numbers. Assumes nothing.
use Rattle.std.specs.Prelude.{◌≡◌, ℕ, length, List}
use Rattle.std.proofs.Common.{rules, arith}
use Rattle.std.proofs.lemmas.List.{ext_get_or}
use Rattle.std.proofs.lemmas.Slice.Eq.{text_from_reads}
use Rattle.queries.specs.RuleTold.{eight_of}
use Rattle.c_answers.proofs.wide_rule.Goals as goal

pub returns : goal.returns
returns c =
    let numbers : List ℕ = c.args.rule.entries in
    let made = c.map.ensures.items in
    let long : length numbers ≡ 8 = grind arith in
    let same : c.map.result ≡ numbers =
    ext_get_or 0 c.map.result numbers (grind (arith, made.long, long))
    (λ i l. let called = (made.at i 0 0 (grind (arith, l, made.long))).2 in search rules) in
    let eight : numbers ≡ eight_of numbers = text_from_reads numbers (eight_of numbers) long (search rules) in
    rw (c.from.ensures, same) (rw eight (search rules))
