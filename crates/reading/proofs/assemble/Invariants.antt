use Prim.Native.Nat.{ℕ, ◌≤◌, ◌<◌, ◌-◌}
use mathlib.Core.Path.{◌≡◌}
use lib.ListN.{length, get_or}
use Rattle.theory.specs.Limits.{document}
use Rattle.table.specs.Sets.{member, number}
use Rattle.table.specs.Labels.{absent_label}
use Rattle.reading.specs.Assembling.{label_for}
use Rattle.reading.proofs.assemble.Given as goal

abbrev pub invariant-loop-i : goal.invariant-loop-i
invariant-loop-i l =
    (l.i ≤ document.atoms) × (length l.labels ≡ document.atoms)
    × ((k : ℕ) → k < l.i
    → get_or l.labels k absent_label ≡ label_for (member l.model k) (member l.occurs k) (number l.depths k) (number l.slots k))

abbrev pub decreases-loop-i : goal.decreases-loop-i
decreases-loop-i l = document.atoms - l.i
