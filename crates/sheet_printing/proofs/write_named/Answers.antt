-- `sheet_printing::write_named` meets its contract. Assumes nothing.
use native.Mathlib.Omega.{arith}
use Rattle.sheet_printing.specs.Printed.{named}
use Rattle.fields.proofs.Wrote.{wrote-all, wrote_none, wrote_then}
use Rattle.sheet_printing.proofs.write_named.Goals as goal

pub returns-then-bytes_left-word : goal.returns-then-bytes_left-word
returns-then-bytes_left-word c = wrote_none (omega arith)

pub returns : goal.returns
unfolding named
returns c =
    let first = c.write_bytes-a.ensures.fits (omega arith) in
    let second = c.write_field-b.ensures.wrote_in.fits (omega (arith, first.place)) in
    let third = c.write_bytes.ensures.fits (omega (arith, first.place)) in
    wrote-all (omega arith) (wrote_then first (wrote_then second third))
