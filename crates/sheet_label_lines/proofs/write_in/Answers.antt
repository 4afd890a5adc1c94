-- `sheet_label_lines::write_in` meets its contract. Assumes nothing.
use native.Mathlib.Omega.{arith}
use Rattle.fields.specs.Texts.{bytes}
use Rattle.sheet_label_lines.specs.LabelLines.{in_line}
use Rattle.fields.proofs.Wrote.{wrote_then}
use Rattle.sheet_label_lines.proofs.write_in.Goals as goal

pub returns : goal.returns
unfolding in_line bytes
returns c =
    let one = c.write_bytes-a.ensures.fits (omega arith) in
    let two = c.write_field-b.ensures.wrote_in.fits (omega (arith, one.place)) in
    let three = c.write_field-c.ensures.wrote_in.fits (omega (arith, one.place)) in
    let four = c.write_bytes.ensures.fits (omega (arith, one.place)) in
    wrote_then one (wrote_then two (wrote_then three four))
