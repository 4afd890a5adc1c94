-- `depths::falls` meets its contract. Assumes nothing.
use Rattle.depths.proofs.Lowering.{falls-none, falls-by}
use Rattle.depths.proofs.falls.Goals as goal

pub returns-then-number-eq0 : goal.returns-then-number-eq0
returns-then-number-eq0 c = falls-none _ _ c.if-number-eq0.true

pub returns : goal.returns
returns c = falls-by _ _ c.if-number-eq0.false
