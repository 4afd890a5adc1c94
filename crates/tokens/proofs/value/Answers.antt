-- `tokens::value` meets its contract. The loop's invariant: the bytes left, after the digits passed, spell what
-- the token does, and what was passed is below a power of ten, so that no sum wraps. Assumes nothing.
use Prim.Native.Nat.{◌-◌}
use native.Mathlib.Omega.{arith}
use mathlib.Core.Path.{◌∙◌}
use lib.ListN.{get_or}
use Rattle.tokens.proofs.Numerals.{spelled-more, spelled-other, spelled-end, room_next}
use borrow.Author.Rules.{rules}
use Rattle.tokens.proofs.value.Goals as goal

pub returns-then-not-is_ascii_digit : goal.returns-then-not-is_ascii_digit
returns-then-not-is_ascii_digit c =
    spelled-other c.args.token.now c.loop-b.b-index c.loop-b.n (omega arith) (search rules) ∙ c.loop-b.invariant.2

pub loop-b-preserved : goal.loop-b-preserved
loop-b-preserved c =
    let token = c.args.token.now in
    let i = c.loop-b.b-index in
    let n = c.loop-b.n in (
      omega arith,
      room_next n i (get_or token i 0 - 48) c.loop-b.invariant.1 (search rules),
      spelled-more token i n (omega arith) (search rules) ∙ c.loop-b.invariant.2,
    )

pub returns : goal.returns
returns c =
    spelled-end c.args.token.now c.loop-b.b-index c.loop-b.n (omega arith) ∙ c.loop-b.invariant.2
