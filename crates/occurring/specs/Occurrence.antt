-- The set of the atoms that occur. Assumes nothing.
use Rattle.std.specs.Prelude.{ℕ, ◌≡◌, true, ◌↔◌}
use Rattle.theory.specs.Rules.{Program, Occurs}
use Rattle.theory.specs.Models.{AtomSet}

-- The set of the atoms that occur.
abbrev pub OccurringIn : Program → AtomSet → Type 0
OccurringIn P O = (a : ℕ) → (O a ≡ true) ↔ Occurs P a
