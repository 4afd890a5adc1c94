use Prim.Native.Nat.{◌-◌}
use mathlib.Core.Path.{◌≡◌}
use lib.ListN.{drop}
use Rattle.theory.specs.Slots.{occurs?}
use Rattle.theory.specs.Limits.{document}
use Rattle.table.specs.Rules.{program_of}
use Rattle.table.specs.Words.{rules_of}
use Rattle.reading.proofs.occurs.Given as goal

abbrev pub invariant-loop-i : goal.invariant-loop-i
invariant-loop-i l = occurs? (drop l.i (program_of (rules_of l.table))) l.a.0 ≡ occurs? (program_of (rules_of l.table)) l.a.0

abbrev pub decreases-loop-i : goal.decreases-loop-i
decreases-loop-i l = document.slots - l.i
