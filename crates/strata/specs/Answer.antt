-- What is found of a program's strata. Assumes nothing.
use Rattle.std.specs.Prelude.{ℕ, List, Option, Some, None}
use Rattle.theory.specs.Rules.{Program}
use Rattle.theory.specs.Dependencies.{NegativeCycle, Stratum}
use Rattle.table.specs.Sets.{number}

-- Either the number kept for each atom is its stratum, or there is a negative cycle.
abbrev pub StrataOf : Program → Option (List ℕ) → Type 0
StrataOf P (Some of) = (a : ℕ) → Stratum P a (number of a)
StrataOf P None = NegativeCycle P
