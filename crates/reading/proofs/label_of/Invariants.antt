use Prim.Native.Nat.{◌-◌}
use mathlib.Core.Path.{◌≡◌}
use lib.ListN.{drop}
use Rattle.theory.specs.Slots.{kept_from}
use Rattle.theory.specs.Limits.{document}
use Rattle.table.specs.Rules.{program_of}
use Rattle.table.specs.Words.{rules_of, depth_at}
use Rattle.reading.proofs.label_of.Given as goal

abbrev pub invariant-loop-i : goal.invariant-loop-i
invariant-loop-i l =
    kept_from (depth_at l.table) l.a.0 l.i (drop l.i (program_of (rules_of l.table)))
    ≡ kept_from (depth_at l.table) l.a.0 0 (program_of (rules_of l.table))

abbrev pub decreases-loop-i : goal.decreases-loop-i
decreases-loop-i l = document.slots - l.i
