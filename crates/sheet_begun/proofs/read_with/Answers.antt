-- `sheet_begun::read_with` meets its contract. Assumes nothing.
use mathlib.Core.Path.{refl}
use Rattle.sheet_begun.proofs.Lengthening.{begun_sized, begun-of-some, reads_whole, reads-longer}
use Rattle.sheet_begun.proofs.read_with.Goals as goal

pub returns-then-begun-eq0 : goal.returns-then-begun-eq0
returns-then-begun-eq0 c =
    reads_whole _ c.if-begun-eq0.true c.read.ensures.answers c.read.ensures.onward refl

pub returns : goal.returns
returns c =
    let longer = c.lengthen.ensures in
    let some = begun-of-some c.args.begun (begun_sized c.args.begun _ c.well_formed.0) in
    reads-longer (longer _ _ some).number longer c.read_begun.ensures
