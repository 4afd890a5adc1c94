-- `repercussions::is_kept` meets its contract. Assumes nothing.
use mathlib.Core.Path.{ap}
use lib.Dec.{eqb}
use Rattle.repercussions.proofs.is_kept.Goals as goal

pub returns : goal.returns
returns c = (ap (λ k. eqb k c.args.slot.0) c.slot_of-kept.ensures)
