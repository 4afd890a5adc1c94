-- An array filled place by place with what a function makes of another array's elements. Assumes nothing.
use Prim.Native.Nat.{ℕ, ◌+◌, ◌≤◌, ◌<◌}
use native.Mathlib.Omega.{arith}
use native.Mathlib.Numerals.{add-one}
use mathlib.Core.Path.{◌≡◌, refl, sym, ◌∙◌, ap₂}
use mathlib.Core.List.{List, [], ◌∷◌, ◌++◌, map}
use lib.ListN.{length, get_or, take, set, length-map, length-set, get_or-map}
use lib.Seq.{take-suc, take-suc-set, take_all}

-- The first i places of ys have what f makes of the first i elements of xs.
pub record Copied {B A : Type 0} (f : B → A) (xs : List B) (ys : List A) (i : ℕ) : Type 0 where
  pub size : length ys ≡ length xs
  pub front : take i ys ≡ take i (map f xs)

module _ {B A : Type 0} (f : B → A) (xs : List B) (ys : List A) where
  pub copied-start : length ys ≡ length xs → Copied f xs ys 0
  copied-start l = record { size = l; front = refl }

  pub copied_next :
      (i : ℕ) (d : B) (v : A) → i < length xs → Copied f xs ys i → v ≡ f (get_or xs i d)
      → Copied f xs (set ys i v) (i + 1)
  copied_next i d v l C e =
      let long : i < length (map f xs) = simp length-map (l) in
      let here : i < length ys = omega (arith, C.size) in
      record {
        size = length-set ys i v ∙ C.size;
        front = rw add-one
            (take-suc-set ys i v here
            ∙ ap₂ (λ zs z. zs ++ (z ∷ [])) C.front (e ∙ sym (get_or-map f xs i d))
            ∙ sym (take-suc (map f xs) i (f d) long));
      }

  pub copied_all : (i : ℕ) → length xs ≤ i → Copied f xs ys i → ys ≡ map f xs
  copied_all i l C =
      let long : length (map f xs) ≤ i = simp length-map (l) in
      sym (take_all i ys (omega (arith, C.size))) ∙ C.front ∙ take_all i (map f xs) long
