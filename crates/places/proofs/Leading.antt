-- Laws of `leading`, the number of bytes at the start that pass a test, as a chain counts them.
-- Assumes nothing.
use Prim.Native.Nat.{ℕ, suc, ◌≤◌}
use native.Mathlib.Omega.{arith}
use native.Mathlib.Numerals.{one-add}
use mathlib.Core.Path.{◌≡◌, refl, ◌∙◌, ap}
use mathlib.Core.Bool.{Bool, true, false, cond}
use mathlib.Core.List.{List, [], ◌∷◌}
use lib.ListN.{length, take, drop}
use Rattle.std.specs.List.{prefix_len}
use Rattle.std.proofs.lemmas.List.Folds.{length-prefix_len}
use Rattle.places.specs.Places.{leading}

module _ (f : ℕ → Bool) where
  leading-prefix : (s : List ℕ) → prefix_len f s ≡ leading f s
  unfolding leading
  leading-prefix [] = refl
  leading-prefix (b ∷ s) = ap (λ (n : ℕ). cond (f b) n 0) (one-add (prefix_len f s) ∙ ap suc (leading-prefix s))

  -- They are as many as `take_while` takes.
  pub leading-taken : (s : List ℕ) → length (take (prefix_len f s) s) ≡ leading f s
  leading-taken s = length-prefix_len f s ∙ leading-prefix s

  pub leading-within : (s : List ℕ) → leading f s ≤ length s
  unfolding leading
  leading-within [] = omega arith
  leading-within (b ∷ s) = go (f b) refl (leading-within s)
    where
      go : (t : Bool) → f b ≡ t → leading f s ≤ length s → leading f (b ∷ s) ≤ suc (length s)
      go true t h = rw t (omega arith)
      go false t h = rw t (omega arith)

  -- After those bytes none follows that passes.
  pub leading-spent : (s : List ℕ) → leading f (drop (leading f s) s) ≡ 0
  unfolding leading
  leading-spent [] = refl
  leading-spent (b ∷ s) = go (f b) refl (leading-spent s)
    where
      go : (t : Bool) → f b ≡ t → leading f (drop (leading f s) s) ≡ 0
          → leading f (drop (leading f (b ∷ s)) (b ∷ s)) ≡ 0
      go true t h = rw t h
      go false t h = rw (t, t)
