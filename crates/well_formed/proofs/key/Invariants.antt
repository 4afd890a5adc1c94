use Prim.Native.Nat.{◌<◌}
use mathlib.Core.Path.{◌≡◌}
use lib.Seq.{slice}
use Rattle.table.specs.Rules.{numbers, rule_of}
use Rattle.well_formed.specs.Keys.{modulus, mixed, key}
use Rattle.well_formed.proofs.key.Given as goal

abbrev pub invariant-loop-j : goal.invariant-loop-j
invariant-loop-j l = (l.k < modulus) × (mixed l.k (numbers (slice l.j l.n l.rule.entries)) ≡ key (rule_of l.rule))
