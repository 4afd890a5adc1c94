-- Private: what is written of an atom, from what was found of it. Assumes nothing.
use Rattle.std.specs.Prelude.{ℕ, Bool, true, false, cond, List, [], ◌∷◌}
use Rattle.theory.specs.Models.{AtomSet}

-- Of an atom that occurs, or not.
abbrev pub numbers_of : Bool → Bool → ℕ → ℕ → ℕ → List ℕ
numbers_of false is_in a d s = []
numbers_of true is_in a d s = a ∷ cond is_in 2 1 ∷ d ∷ s ∷ []

abbrev pub found_numbers : AtomSet → AtomSet → (ℕ → ℕ) → (ℕ → ℕ) → ℕ → List ℕ
found_numbers O M d s = λ a. numbers_of (O a) (M a) a (d a) (s a)
