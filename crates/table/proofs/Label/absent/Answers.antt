-- `table::Label::absent` meets its contract. Assumes nothing.
use mathlib.Core.Path.{refl}
use Rattle.table.proofs.Label.absent.Goals as goal

pub returns : goal.returns
returns c = refl
