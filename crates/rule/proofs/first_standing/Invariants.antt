use Prim.Native.Nat.{◌+◌}
use mathlib.Core.Path.{◌≡◌}
use lib.Seq.{slice}
use Rattle.theory.specs.Lists.{before}
use Rattle.table.specs.Sets.{member, standing}
use Rattle.table.specs.Rules.{numbers}
use Rattle.rule.proofs.first_standing.Given as goal

abbrev pub invariant-loop-j : goal.invariant-loop-j
invariant-loop-j l =
    l.j + before (standing l.wanted (member l.flags)) (numbers (slice l.j l.to l.rule.entries))
    ≡ l.from + before (standing l.wanted (member l.flags)) (numbers (slice l.from l.to l.rule.entries))
