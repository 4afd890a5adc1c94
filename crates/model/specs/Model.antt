-- What is asked of the numbers given for the atoms, and what the search answers. Assumes nothing.
use Rattle.std.specs.Prelude.{ℕ}
use Rattle.theory.specs.Rules.{Pages, all, active, Bounded}
use Rattle.theory.specs.Models.{Admissible}
use Rattle.theory.specs.Dependencies.{Stratum}
use Rattle.theory.specs.Limits.{document}
use Rattle.theory.specs.Rounds.{RoundsTold}
use Rattle.table.specs.Sets.{member, number}
use Rattle.model.specs.declared.Search.{Search}

-- The number given for each atom is its stratum, by all rules held, and all their atoms are below the limit.
pub record Stratified (B : Pages) (ℓ : ℕ → ℕ) : Type 0 where
  pub bounded : Bounded (all B) document.atoms
  pub exact : (a : ℕ) → Stratum (all B) a (ℓ a)

-- The in atoms are the admissible model of the unmuted rules, and of each layer it is told how many rounds it has.
pub record Searched (B : Pages) (r : Search) : Type 0 where
  pub model : Admissible (active B) (member r.found)
  pub rounds : (k : ℕ) → RoundsTold B k (number r.rounds k)
