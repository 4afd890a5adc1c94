-- What the first answer says further: strata as the theory has them, and no negative cycle. Assumes nothing.
use Prim.Native.Nat.{ℕ}
use mathlib.Core.List.{List}
use Rattle.std.specs.Prelude.{Some}
use Rattle.theory.specs.Rules.{Program}
use Rattle.theory.specs.Dependencies.{NegativeCycle}
use Rattle.theory.proofs.Strata.{exact-strata, Strata, strata-acyclic}
use Rattle.table.specs.Sets.{number}
use Rattle.strata.specs.Answer.{StrataOf}

pub answer-strata : (P : Program) (of : List ℕ) → StrataOf P (Some of) → Strata P (number of)
answer-strata P of A = exact-strata P (number of) A

pub answer-acyclic : (P : Program) (of : List ℕ) → StrataOf P (Some of) → NegativeCycle P → ⊥
answer-acyclic P of A = strata-acyclic P (number of) (answer-strata P of A)
