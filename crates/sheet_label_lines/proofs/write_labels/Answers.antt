-- `sheet_label_lines::write_labels` meets its contract. The loop keeps: the lines of the atoms below `atom` are
-- written. Assumes nothing.
use native.Mathlib.Omega.{arith}
use mathlib.Core.Path.{◌≡◌}
use Rattle.table.specs.Labels.{label_listed}
use Rattle.sheet_label_lines.specs.LabelLines.{label_lines}
use Rattle.fields.proofs.Wrote.{wrote-all, wrote_none, wrote_nothing, wrote-length}
use Rattle.sheet_label_lines.proofs.Lengths.{wrote-next-label}
use Rattle.sheet_label_lines.proofs.write_labels.Goals as goal

pub returns-then-bytes_left-lt-LABELS_ROOM : goal.returns-then-bytes_left-lt-LABELS_ROOM
returns-then-bytes_left-lt-LABELS_ROOM c = wrote_none (omega arith)

pub loop-atom-init : goal.loop-atom-init
unfolding label_lines
loop-atom-init c = (omega arith, omega arith, wrote_nothing (omega arith))

pub write_label-next-requires : goal.write_label-next-requires
write_label-next-requires c =
    record { atom_lt_atoms = omega arith; at_in_bounds = omega (arith, wrote-length c.loop-atom.invariant.2) }

pub loop-atom-preserved : goal.loop-atom-preserved
loop-atom-preserved c =
    let labels = c.args.labels in
    let atom = c.loop-atom.atom in
    let short = c.write_label-next.ensures.short in
    let same = wrote-length c.loop-atom.invariant.2 in (
      omega arith,
      omega arith,
      wrote-next-label (label_listed labels) atom c.loop-atom.invariant.2 c.write_label-next.ensures.wrote,
    )

pub shape_of-out : goal.shape_of-out
shape_of-out c = wrote-length c.loop-atom.invariant.2

pub returns : goal.returns
returns c =
    let l = c.loop-atom in
    let all : l.atom ≡ 256 = omega arith in
    wrote-all (omega arith) (rw all at l.invariant.2)
