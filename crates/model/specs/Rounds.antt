-- What the functions of the crate tell each other (private): which atoms are sought, and what the rounds of a stratum
-- do to the atoms found so far. Assumes nothing.
use Rattle.std.specs.Prelude.{◌≡◌, ℕ, zero, suc, ◌≤◌, Bool, false, not, ◌&&◌, List, length, ◌==◌}
use Rattle.theory.specs.Rules.{Pages, Program, active}
use Rattle.theory.specs.Models.{AtomSet}
use Rattle.theory.specs.Limits.{document}
use Rattle.theory.specs.Rounds.{FoundBelow, Rounds}
use Rattle.table.specs.Sets.{member}
use Rattle.model.specs.Model.{Stratified}

-- An atom is sought if it is of stratum k and not in M yet.
abbrev pub sought : (ℕ → ℕ) → ℕ → AtomSet → ℕ → Bool
sought ℓ k M a = ℓ a == k && not (M a)

-- A slot waits if it holds an unmuted rule (its state is 1) whose head is sought.
abbrev pub waits : (ℕ → ℕ) → ℕ → AtomSet → ℕ → ℕ → Bool
waits ℓ k M zero a = false
waits ℓ k M (suc zero) a = sought ℓ k M a
waits ℓ k M (suc (suc n)) a = false

-- The layers below k have ended, and there is room for every atom.
pub record Ready (B : Pages) (ℓ : ℕ → ℕ) (k : ℕ) (found : List Bool) : Type 0 where
  pub stratified : Stratified B ℓ
  pub below : FoundBelow (active B) ℓ k (member found)
  pub size : length found ≡ document.atoms

-- The rounds of layer k, up to the first that adds none, take the atoms found from before to after.
pub record Filling (P : Program) (ℓ : ℕ → ℕ) (k : ℕ) (before after : List Bool) (n : ℕ) : Type 0 where
  pub rounds : Rounds P ℓ k (member before) n (member after)
  pub size : length after ≡ length before

-- The highest of the numbers.
pub record HighestOf (ℓ : ℕ → ℕ) (top : ℕ) : Type 0 where
  pub above : (a : ℕ) → ℓ a ≤ top
  pub atom : ℕ
  pub there : ℓ atom ≡ top
