-- The edges that two lists of numbers hold, and the atoms reached by them. Assumes nothing.
use Rattle.std.specs.Prelude.{ℕ, ◌<◌, ◌≡◌, true, ◌↔◌, List, length, get_or}
use Rattle.theory.specs.Lists.{Steps}
use Rattle.theory.specs.Models.{AtomSet}
use Rattle.theory.specs.Limits.{document}

-- An edge leads from a to c: some index below `count` has a in the list `from` and c in the list `to`. An index past
-- the end of either list is no edge, and neither is one with an end past the atoms.
pub record Edge (from to : List ℕ) (count a c : ℕ) : Type 0 where
  pub index : ℕ
  pub counted : index < count
  pub in_from : index < length from
  pub in_to : index < length to
  pub leaves : get_or from index 0 ≡ a
  pub enters : get_or to index 0 ≡ c
  pub atom_from : a < document.atoms
  pub atom_to : c < document.atoms

-- The set holds exactly the atoms reached from `start` by one or more edges.
abbrev pub Reached : (from to : List ℕ) (count start : ℕ) → AtomSet → Type 0
Reached from to count start M = (x : ℕ) → (M x ≡ true) ↔ Steps (Edge from to count) start x
