-- `tokens::numeral` meets its contract: the tests of the length and of the first byte are those of the
-- definition. Assumes nothing.
use native.Mathlib.Omega.{arith}
use mathlib.Core.Path.{◌∙◌}
use Rattle.tokens.proofs.Numerals.{numeral-empty, numeral-long, numeral-needless, numeral-other, numeral-digit}
use Rattle.tokens.proofs.numeral.Goals as goal
use Rattle.tokens.proofs.numeral.Goals.{then-n-gt1+else-token-eq48, else-n-gt1}

pub returns-then-n-eq0 : goal.returns-then-n-eq0
returns-then-n-eq0 c = numeral-empty _ c.if-n-eq0.true

pub returns-then-n-gt5 : goal.returns-then-n-gt5
returns-then-n-gt5 c = numeral-long c.args.token.now (omega (arith, c.if-n-gt5.true))

pub returns-then-token-eq48 : goal.returns-then-token-eq48
returns-then-token-eq48 c =
    let token = c.args.token.now in
    numeral-needless token (omega (arith, c.if-n-gt1.true)) c.if-token-eq48.true

pub returns : goal.returns
returns c =
    let token = c.args.token.now in
    c.value.ensures ∙ elim c.if-n-gt1.branch [
      | then-n-gt1+else-token-eq48 w ↦ numeral-other token w.if-n-gt1.true c.if-n-gt5.false w.if-token-eq48.false
      | else-n-gt1 w ↦ numeral-digit token (omega arith) w.if-n-gt1.false
    ]
