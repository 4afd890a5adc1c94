-- `sheet_lines::read::collect` meets its contract. The loop's invariant: storing the numbers that are left behind those
-- that were read gives the whole. The measure is the number of tokens left. Assumes nothing.
use native.Mathlib.Omega.{arith}
use mathlib.Core.Path.{◌≡◌, sym, ◌∙◌, ap}
use mathlib.Core.Option.{some, none}
use lib.ListN.{length, drop}
use Rattle.tokens.specs.Tokens.{tokens}
use Rattle.tokens.specs.Numerals.{numeral}
use Rattle.tokens.specs.Parts.{first_of, as_option}
use Rattle.places.proofs.Places.{onward_then}
use Rattle.sheet_lines.proofs.Commands.{advance}
use Rattle.sheet_lines.proofs.Entries.{collect-next}
use Rattle.sheet_lines.proofs.Entries.{collect-entries, collect-count, collect-rest}
use Rattle.sheet_lines.proofs.read.collect.Goals as goal

pub returns-in_default : goal.returns-in_default
returns-in_default c =
    let line = c.args.line.now in
    let ts = tokens (drop c.loop-n.next.offset line) in
    let number : numeral (first_of ts) ≡ none =
    sym (ap numeral (c.text.ensures ∙ c.next_token-t.ensures.first))
    ∙ sym c.numeral.ensures ∙ ap as_option c.in_default.is in
    record {
      entries = collect-entries _ _ _ _ _ ts c.loop-n.invariant.2 number;
      count = collect-count _ _ _ _ _ ts c.loop-n.invariant.2 number;
      inside = c.loop-n.invariant.0;
      onward = c.loop-n.invariant.1;
      rest = collect-rest _ _ _ _ _ ts c.loop-n.invariant.2 number;
    }

-- the tokens left are those from the loop's place on, and the first of them is the number read
pub bounds-entries-count : goal.bounds-entries-count
bounds-entries-count c =
    let ts = tokens (drop c.loop-n.next.offset c.args.line.now) in
    let number : numeral (first_of ts) ≡ some c.in-Some.n =
    sym (ap numeral (c.text.ensures ∙ c.next_token-t.ensures.first))
    ∙ sym c.numeral.ensures ∙ ap as_option c.in-Some.is in
    omega (arith, (advance ts _ number).shorter, c.loop-n.invariant.2.room)

pub loop-n-smaller : goal.loop-n-smaller
loop-n-smaller c =
    let ts = tokens (drop c.loop-n.next.offset c.args.line.now) in
    let number : numeral (first_of ts) ≡ some c.in-Some.n =
    sym (ap numeral (c.text.ensures ∙ c.next_token-t.ensures.first))
    ∙ sym c.numeral.ensures ∙ ap as_option c.in-Some.is in
    omega (arith, (advance ts _ number).shorter, ap length c.next_token-t.ensures.rest)

pub loop-n-preserved : goal.loop-n-preserved
loop-n-preserved c =
    let ts = tokens (drop c.loop-n.next.offset c.args.line.now) in
    let number : numeral (first_of ts) ≡ some c.in-Some.n =
    sym (ap numeral (c.text.ensures ∙ c.next_token-t.ensures.first))
    ∙ sym c.numeral.ensures ∙ ap as_option c.in-Some.is in (
      c.next_token-t.ensures.onward.not_past c.loop-n.invariant.0,
      onward_then c.loop-n.invariant.1 c.next_token-t.ensures.onward,
      collect-next _ _ _ _ _ ts c.loop-n.invariant.2 _ _ number c.next_token-t.ensures.rest,
    )
