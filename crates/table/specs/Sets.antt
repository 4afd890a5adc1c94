-- Sets of atoms and numbers of atoms that the code keeps in arrays. Assumes nothing.
use Rattle.std.specs.Prelude.{ℕ, ◌≡◌, Bool, true, false, not, ◌↔◌, List, get_or}
use Rattle.theory.specs.Models.{AtomSet}

-- The set that an array of flags stands for: its places are the atoms. An atom past its end is not in it.
abbrev pub member : List Bool → AtomSet
member flags = λ a. get_or flags a false

-- The flags are those of the numbers of which P holds: past their end it holds of none.
abbrev pub Flags : List Bool → (ℕ → Type 0) → Type 0
Flags flags P = (x : ℕ) → (member flags x ≡ true) ↔ P x

-- How many a flag counts for.
abbrev pub one_if : Bool → ℕ
one_if true = 1
one_if false = 0

-- The number that an array keeps for an atom: 0 past its end.
abbrev pub number : List ℕ → ℕ → ℕ
number numbers a = get_or numbers a 0

-- What an entry must be: in the set where w is true, out of it where w is false.
abbrev pub standing : Bool → AtomSet → AtomSet
standing true M = M
standing false M = λ a. not (M a)
