-- `tokens::is` meets its contract. Assumes nothing.
use Rattle.tokens.proofs.Tokens.{one-not, one-is}
use Rattle.tokens.proofs.is.Goals as goal

pub returns-then-token-ne1 : goal.returns-then-token-ne1
returns-then-token-ne1 c = one-not _ _ c.if-token-ne1.true

pub returns : goal.returns
returns c = one-is _ _ c.if-token-ne1.false
