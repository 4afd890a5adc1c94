-- Depths as a number for every atom. Assumes nothing.
use Rattle.std.specs.Prelude.{ℕ, ◌≡◌, Bool, true, false, ◌&&◌, ltb}
use Rattle.theory.specs.Rules.{Program}
use Rattle.theory.specs.Models.{AtomSet}
use Rattle.theory.specs.Derivations.{Depth}

-- The depth of each in atom, 0 for every other.
pub record DepthsOf (P : Program) (M : AtomSet) (d : ℕ → ℕ) : Type 0 where
  pub deep : (a : ℕ) → M a ≡ true → Depth P M a (d a)
  pub rest : (a : ℕ) → M a ≡ false → d a ≡ 0

-- x has a depth, and one below the limit: 0 stands for an atom that has none.
abbrev pub within : (ℕ → ℕ) → ℕ → ℕ → Bool
within d limit x = ltb 0 (d x) && ltb (d x) limit
