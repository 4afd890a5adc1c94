-- What the functions of the crate tell each other (private): the number that a rule needs its head to have, and an
-- atom's number raised to one. Assumes nothing.
use Rattle.std.specs.Prelude.{ℕ, ◌+◌, ◌≤◌, ◌<◌, max, ◌≡◌, Bool, true, false, List, length, set}
use Rattle.std.proofs.Math.Option.{Option, none, some}
use Rattle.theory.specs.Lists.{◌∈◌, greatest}
use Rattle.theory.specs.Rules.{entries, Program, Rule}
use Rattle.theory.specs.Dependencies.{DependencyPath}
use Rattle.table.specs.Sets.{number}

-- The numbers of the atoms, each made greater by a step.
abbrev pub plus : ℕ → (ℕ → ℕ) → ℕ → ℕ
plus step ℓ = λ x. step + ℓ x

-- The least number for the head at which no entry lies above it and each negative entry lies below it.
abbrev pub needed : (ℕ → ℕ) → Option Rule → ℕ
needed ℓ none = 0
needed ℓ (some r) = max (greatest (plus 0 ℓ) r.positives) (greatest (plus 1 ℓ) r.negatives)

-- All numbers of a list are below n; all entries of a slot's rule are, if it holds one.
abbrev pub AllBelow : ℕ → List ℕ → Type 0
AllBelow n xs = (x : ℕ) → x ∈ xs → x < n

abbrev pub EntriesBelow : ℕ → Option Rule → Type 0
EntriesBelow n slot = (r : Rule) → slot ≡ some r → AllBelow n (entries r)

-- The atom's number becomes n if it is lower, and the flag says whether it was.
pub record Raised (before : List ℕ) (a n : ℕ) (after : List ℕ) (flag : Bool) : Type 0 where
  pub kept : flag ≡ false → (n ≤ number before a) × (after ≡ before)
  pub higher : flag ≡ true → (number before a < n) × (after ≡ set before a n)

-- Each atom's number is the weight of some path from it.
abbrev pub Attained : Program → (ℕ → ℕ) → Type 0
Attained P ℓ = (a : ℕ) → (c : ℕ) × DependencyPath P a c (ℓ a)

-- Numbers were raised, each to the weight of some path.
pub record Guided (P : Program) (before after : List ℕ) : Type 0 where
  pub attained : Attained P (number after)
  pub up : (a : ℕ) → number before a ≤ number after a
  pub long : length after ≡ length before
