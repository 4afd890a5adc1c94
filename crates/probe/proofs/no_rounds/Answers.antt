-- `probe::no_rounds` tells the number and no rounds. Assumes nothing.
use mathlib.Core.Path.{refl}
use Rattle.probe.proofs.no_rounds.Goals as goal

pub returns : goal.returns
returns c = refl
