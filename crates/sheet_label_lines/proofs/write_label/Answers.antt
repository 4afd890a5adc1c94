-- `sheet_label_lines::write_label` meets its contract. Assumes nothing.
use native.Mathlib.Omega.{arith}
use Rattle.fields.specs.Texts.{bytes}
use Rattle.sheet_label_lines.specs.LabelLines.{label_line}
use Rattle.fields.proofs.Wrote.{wrote_nothing, wrote_then}
use Rattle.sheet_label_lines.proofs.Lengths.{in-length, wrote-atom}
use Rattle.sheet_label_lines.proofs.write_label.Goals as goal

pub returns-in-Absent : goal.returns-in-Absent
unfolding label_line
returns-in-Absent c = record { wrote = rw c.in-Absent.is (wrote_nothing (omega arith)); short = omega arith }

pub returns-in-Out : goal.returns-in-Out
unfolding label_line bytes
returns-in-Out c =
    let atom = wrote-atom (omega arith) (omega arith) c.write_number-a.ensures in
    let rest = c.write_bytes.ensures.fits (omega (arith, atom.1)) in
    record { wrote = rw c.in-Out.is (wrote_then atom.0 rest); short = omega (arith, atom.1, rest.place) }

pub write_in-requires : goal.write_in-requires
write_in-requires c =
    omega (arith, wrote-atom (omega arith) (omega arith) c.write_number-b.ensures)

pub returns-in-In : goal.returns-in-In
unfolding label_line
returns-in-In c =
    let atom = wrote-atom (omega arith) (omega arith) c.write_number-b.ensures in
    let few = in-length c.in-In.depth c.in-In.slot.0 (omega arith) (omega arith) in
    record { wrote = rw c.in-In.is (wrote_then atom.0 c.write_in.ensures); short = omega (arith, atom.1, few, c.write_in.ensures.place) }
