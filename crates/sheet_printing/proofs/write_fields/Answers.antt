-- `sheet_printing::write_fields` meets its contract. The loop keeps: the fields below `n-index` are written.
-- Assumes nothing.
use Prim.Native.Nat.{◌≤◌}
use native.Mathlib.Omega.{arith}
use lib.ListN.{length}
use lib.Seq.{take_all}
use Rattle.fields.specs.Fields.{fields}
use Rattle.fields.proofs.Wrote.{wrote_nothing, wrote-length}
use Rattle.sheet_printing.proofs.Fields.{wrote-next-field}
use Rattle.sheet_printing.proofs.write_fields.Goals as goal

pub loop-n-init : goal.loop-n-init
unfolding fields
loop-n-init c = (omega arith, omega arith, wrote_nothing (omega arith))

pub write_field-next-requires : goal.write_field-next-requires
write_field-next-requires c =
    omega (arith, wrote-length c.loop-n.invariant.2)

pub loop-n-preserved : goal.loop-n-preserved
loop-n-preserved c =
    let l = c.loop-n in
    let same = wrote-length l.invariant.2 in (
      omega arith,
      omega arith,
      wrote-next-field _ l.n-index (omega arith) l.invariant.2 (c.write_field-next.ensures.wrote_in.fits (omega arith)),
    )

pub shape_of-out : goal.shape_of-out
shape_of-out c = wrote-length c.loop-n.invariant.2

pub returns : goal.returns
returns c =
    let over : length c.args.numbers.now ≤ c.loop-n.n-index = omega arith in
    rw take_all at c.loop-n.invariant.2
