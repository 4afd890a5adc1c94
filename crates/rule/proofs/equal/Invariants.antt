use Prim.Native.Nat.{◌-◌, ◌≤◌}
use mathlib.Core.Path.{◌≡◌}
use mathlib.Core.Logic.{◌↔◌}
use lib.Seq.{slice}
use Rattle.theory.specs.Limits.{document}
use Rattle.table.specs.Rules.{numbers, rule_of}
use Rattle.rule.proofs.equal.Given as goal

abbrev pub invariant-loop-j : goal.invariant-loop-j
invariant-loop-j l =
    (l.n ≤ document.entries)
    × ((numbers (slice l.j l.n l.a.entries) ≡ numbers (slice l.j l.n l.b.entries)) ↔ (rule_of l.a ≡ rule_of l.b))

abbrev pub decreases-loop-j : goal.decreases-loop-j
decreases-loop-j l = l.n - l.j
