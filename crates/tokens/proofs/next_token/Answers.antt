-- `tokens::next_token` meets its contract: the blanks are passed, then the bytes of a token. Assumes nothing.
use native.Mathlib.Omega.{arith}
use lib.ListN.{drop, length-drop}
use Rattle.places.specs.Places.{is_space}
use Rattle.tokens.specs.Tokens.{in_token}
use mathlib.Core.Path.{ap}
use Rattle.places.specs.declared.Place.{Place}
use Rattle.places.proofs.Leading.{leading-within}
use Rattle.tokens.proofs.Tokens.{first-token, rest-tokens}
use Rattle.tokens.proofs.next_token.Goals as goal

pub returns : goal.returns
returns c =
    let begin = c.past_blanks-begin in
    let end = c.token_end-end in
    let line = c.args.line.now in
    let place = c.args.place in
    let from = place.offset in
    let start = begin.result.offset in
    let passed = ap (λ (p : Place). p.offset) begin.ensures in
    record {
      ordered = omega (arith, end.ensures);
      onward =
          record {
            same_line = ap (λ (p : Place). p.line) begin.ensures;
            not_before = omega (arith, passed, end.ensures);
            not_past =
                λ inside.
                omega (
                  arith,
                  passed,
                  end.ensures,
                  inside,
                  leading-within is_space (drop from line),
                  length-drop from line,
                  leading-within in_token (drop start line),
                  length-drop start line,
                );
          };
      first = first-token line from start end.result passed end.ensures;
      rest = rest-tokens line from start end.result passed end.ensures;
    }
