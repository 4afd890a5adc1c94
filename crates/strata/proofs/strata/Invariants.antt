use Prim.Native.Nat.{◌+◌, ◌≤◌}
use mathlib.Core.Path.{◌≡◌}
use lib.ListN.{length}
use Rattle.theory.specs.Limits.{document}
use Rattle.table.specs.Sets.{number}
use Rattle.table.specs.Rules.{program_of}
use Rattle.table.specs.Words.{rules_of}
use Rattle.table.specs.Turns.{slot_at}
use Rattle.strata.proofs.Rounds.{Rounds, Slots}
use Rattle.strata.proofs.strata.Given as goal

abbrev pub invariant-loop-i : goal.invariant-loop-i
invariant-loop-i l =
    (l.i ≤ document.slots) × (length l.of ≡ document.atoms)
    × Slots (program_of (rules_of l.table)) (slot_at document.slots l.down) document.slots l.round l.i (number l.of) l.raised

abbrev pub invariant-loop-round : goal.invariant-loop-round
invariant-loop-round l =
    (l.round ≤ document.slots + 1) × (length l.of ≡ document.atoms)
    × Rounds (program_of (rules_of l.table)) document.slots l.round (number l.of)
