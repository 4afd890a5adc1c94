-- `sheet_printing::write_why` meets its contract. Assumes nothing.
use native.Mathlib.Omega.{arith}
use Rattle.fields.specs.Texts.{bytes}
use Rattle.sheet_printing.specs.Printed.{why_line}
use Rattle.fields.proofs.Wrote.{fields-length, wrote-all, wrote_none, wrote_then}
use Rattle.sheet_printing.proofs.write_why.Goals as goal

pub returns-then-left-lt4 : goal.returns-then-left-lt4
returns-then-left-lt4 c = wrote_none (omega arith)

pub returns-then-left-slots : goal.returns-then-left-slots
returns-then-left-slots c = wrote_none (omega arith)

pub write_fields-b-requires : goal.write_fields-b-requires
write_fields-b-requires c =
    let word = c.write_bytes-a.ensures.fits (omega arith) in
    omega (arith, word.place)

pub returns : goal.returns
unfolding why_line bytes
returns c =
    let few = fields-length c.args.slots.now (λ i. (c.shared_slice_known-1.given i).fits) in
    let first = c.write_bytes-a.ensures.fits (omega arith) in
    let second = c.write_fields-b.ensures in
    let third = c.write_bytes.ensures.fits (omega (arith, few, first.place, second.place)) in
    wrote-all (omega arith) (wrote_then first (wrote_then second third))
