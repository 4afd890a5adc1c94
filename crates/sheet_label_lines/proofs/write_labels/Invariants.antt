use Prim.Native.Nat.{◌+◌, ◌-◌, ◌*◌, ◌≤◌}
use Rattle.table.specs.Labels.{label_listed}
use Rattle.sheet_label_lines.specs.LabelLines.{label_lines}
use Rattle.fields.specs.Written.{Wrote}
use Rattle.sheet_label_lines.proofs.write_labels.Given as goal

abbrev pub invariant-loop-atom : goal.invariant-loop-atom
invariant-loop-atom l =
    (l.atom ≤ 256) × (l.next ≤ l.at + 32 * l.atom)
    × Wrote (label_lines (label_listed l.labels) l.atom) l.initial.out l.at l.out l.next

abbrev pub decreases-loop-atom : goal.decreases-loop-atom
decreases-loop-atom l = 256 - l.atom
