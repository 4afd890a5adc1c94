use Prim.Native.Nat.{◌-◌, ◌≤◌}
use mathlib.Core.Path.{◌≡◌}
use lib.ListN.{length}
use lib.Seq.{paste}
use Rattle.table.specs.Words.{words}
use Rattle.table.proofs.slots.paste.Given as goal

abbrev pub invariant-loop-j : goal.invariant-loop-j
invariant-loop-j l =
    (length l.initial.w ≡ words) × (length l.w ≡ words) × (length l.from ≡ 12) × (l.j ≤ 12) ×
    (l.w ≡ paste l.initial.w l.b l.from l.j)

abbrev pub decreases-loop-j : goal.decreases-loop-j
decreases-loop-j l = 12 - l.j
