-- `sheet_printing::write_refusal` meets its contract. Assumes nothing.
use native.Mathlib.Omega.{arith}
use Rattle.fields.specs.Texts.{bytes}
use Rattle.sheet_printing.specs.Printed.{refusal_line}
use Rattle.fields.proofs.Wrote.{wrote-all, wrote_none, wrote_then}
use Rattle.sheet_printing.proofs.write_refusal.Goals as goal

pub returns-then-bytes_left-lt40 : goal.returns-then-bytes_left-lt40
returns-then-bytes_left-lt40 c = wrote_none (omega arith)

pub returns : goal.returns
unfolding refusal_line bytes
returns c =
    let one = c.write_bytes-a.ensures.fits (omega arith) in
    let two = c.write_field-b.ensures.wrote_in.fits (omega (arith, one.place)) in
    let three = c.write_bytes-c.ensures.fits (omega (arith, one.place)) in
    let four = c.write_field-d.ensures.wrote_in.fits (omega (arith, one.place, three.place)) in
    let five = c.write_bytes.ensures.fits (omega (arith, one.place, three.place)) in
    wrote-all (omega arith) (wrote_then one (wrote_then two (wrote_then three (wrote_then four five))))
