-- `sheet_begun::read_begun` meets its contract. Assumes nothing.
use mathlib.Core.Path.{refl}
use Rattle.sheet_begun.proofs.Lengthening.{begun_sized, reads_held}
use Rattle.sheet_begun.proofs.read_begun.Goals as goal

pub returns : goal.returns
returns c =
    reads_held (begun_sized c.args.begun _ c.well_formed.0) c.min-n.ensures
    c.read.ensures.answers c.read.ensures.onward refl
