use Prim.Native.Nat.{◌-◌, ◌≤◌, ◌*◌}
use Rattle.theory.specs.Limits.{document}
use Rattle.table.specs.Sets.{member, number}
use Rattle.table.specs.Rules.{active_of}
use Rattle.table.specs.Words.{rules_of}
use Rattle.repercussions.proofs.Edges.{Giving}
use Rattle.repercussions.proofs.reached.Given as goal

abbrev pub invariant-loop-i : goal.invariant-loop-i
invariant-loop-i l =
    (l.i ≤ document.slots)
    × Giving (active_of (rules_of l.table)) (member l.flags) (number l.slots) (document.slots * document.entries) l.i l.from l.to
    l.count

abbrev pub decreases-loop-i : goal.decreases-loop-i
decreases-loop-i l = document.slots - l.i
