-- `fields::write_field` meets its contract. Assumes nothing.
use native.Mathlib.Omega.{arith}
use Rattle.fields.specs.Fields.{field}
use Rattle.fields.proofs.Decimals.{decimal-length}
use Rattle.fields.proofs.Wrote.{wrote-all, wrote_none, wrote_then}
use Rattle.fields.proofs.write_field.Goals as goal

pub returns-then-bytes_left-lt11 : goal.returns-then-bytes_left-lt11
returns-then-bytes_left-lt11 c = record { wrote_in = wrote_none (omega arith); upper_bound = omega arith }

pub returns : goal.returns
unfolding field
returns c =
    let few = decimal-length 9 c.args.n (omega arith) in
    let blank = c.write_bytes-next.ensures.fits (omega arith) in
    let digits = c.write_number.ensures.fits (omega (arith, few, blank.place)) in
    record { wrote_in = wrote-all (omega arith) (wrote_then blank digits); upper_bound = omega (arith, few, blank.place, digits.place) }
