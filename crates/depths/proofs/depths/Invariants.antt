use Prim.Native.Nat.{◌+◌, ◌-◌, ◌≤◌}
use Rattle.theory.specs.Limits.{document}
use Rattle.table.specs.Rules.{active_of}
use Rattle.table.specs.Sets.{member}
use Rattle.table.specs.Words.{rules_of}
use Rattle.table.specs.Turns.{slot_at}
use Rattle.depths.proofs.Relaxing.{Pass, Outer}
use Rattle.depths.proofs.depths.Given as goal

abbrev pub invariant-loop-i : goal.invariant-loop-i
invariant-loop-i l =
    (l.i ≤ document.slots)
    × Pass (active_of (rules_of l.table)) (member l.model) (slot_at document.slots l.down) document.atoms l.round l.i l.found
    l.lowered

abbrev pub invariant-loop-lowered : goal.invariant-loop-lowered
invariant-loop-lowered l = Outer (active_of (rules_of l.table)) (member l.model) document.atoms l.round l.found l.lowered

abbrev pub decreases-loop-lowered : goal.decreases-loop-lowered
decreases-loop-lowered l = document.atoms + 1 - l.round
