-- What a walk over a list of numbers, place by place, learns of the whole list. Assumes nothing.
use Prim.Native.Nat.{ℕ, ◌+◌, ◌≤◌, ◌<◌}
use native.Mathlib.Numerals.{add-one}
use mathlib.Core.Path.{◌≡◌, refl, sym, ◌∙◌, ap}
use mathlib.Core.Bool.{Bool, true, false, not, ◌&&◌, ◌||◌, and_assoc}
use mathlib.Core.List.{List, [], ◌∷◌, ◌++◌}
use lib.Dec.{eqb}
use lib.ListN.{length, get_or, drop, drop_of_length-le}
use lib.Seq.{drop-cons}
use Rattle.theory.specs.Lists.{every, any, distinct}

-- The rest of a list from place i: place i and the rest from i + 1.
module _ (xs : List ℕ) (i : ℕ) where
  rest_over : length xs ≤ i → drop i xs ≡ []
  rest_over l = drop_of_length-le xs l

  rest-next : i < length xs → drop i xs ≡ get_or xs i 0 ∷ drop (i + 1) xs
  rest-next l = rw (add-one, drop-cons xs i 0)

  module _ (f : ℕ → Bool) where
    pub every-rest-over : length xs ≤ i → every f (drop i xs) ≡ true
    unfolding every
    every-rest-over l = ap (every f) (rest_over l)

    every-rest-step : i < length xs → every f (drop i xs) ≡ (f (get_or xs i 0) && every f (drop (i + 1) xs))
    unfolding every
    every-rest-step l = ap (every f) (rest-next l)

    pub every-rest-next : i < length xs → f (get_or xs i 0) ≡ true → every f (drop i xs) ≡ every f (drop (i + 1) xs)
    every-rest-next l t = every-rest-step l ∙ ap (λ b. b && every f (drop (i + 1) xs)) t

    pub every-rest-stop : i < length xs → f (get_or xs i 0) ≡ false → every f (drop i xs) ≡ false
    every-rest-stop l t = every-rest-step l ∙ ap (λ b. b && every f (drop (i + 1) xs)) t

    pub any-rest-over : length xs ≤ i → any f (drop i xs) ≡ false
    unfolding any
    any-rest-over l = ap (any f) (rest_over l)

    any-rest-step : i < length xs → any f (drop i xs) ≡ (f (get_or xs i 0) || any f (drop (i + 1) xs))
    unfolding any
    any-rest-step l = ap (any f) (rest-next l)

    pub any-rest-next : i < length xs → f (get_or xs i 0) ≡ false → any f (drop i xs) ≡ any f (drop (i + 1) xs)
    any-rest-next l t = any-rest-step l ∙ ap (λ b. b || any f (drop (i + 1) xs)) t

    pub any-rest-stop : i < length xs → f (get_or xs i 0) ≡ true → any f (drop i xs) ≡ true
    any-rest-stop l t = any-rest-step l ∙ ap (λ b. b || any f (drop (i + 1) xs)) t

  pub distinct-over : length xs ≤ i → distinct (drop i xs) ≡ true
  unfolding distinct
  distinct-over l = ap distinct (rest_over l)

  distinct-step :
      i < length xs
      → distinct (drop i xs) ≡ (not (any (eqb (get_or xs i 0)) (drop (i + 1) xs)) && distinct (drop (i + 1) xs))
  unfolding distinct
  distinct-step l = ap distinct (rest-next l)

  -- the test of whether entry i stands again later
  module _ (t : Bool) (told : t ≡ any (eqb (get_or xs i 0)) (drop (i + 1) xs)) (l : i < length xs) where
    again : distinct (drop i xs) ≡ (not t && distinct (drop (i + 1) xs))
    again = distinct-step l ∙ ap (λ b. not b && distinct (drop (i + 1) xs)) (sym told)

    pub distinct-next : t ≡ false → distinct (drop i xs) ≡ distinct (drop (i + 1) xs)
    distinct-next u = again ∙ ap (λ b. not b && distinct (drop (i + 1) xs)) u

    pub distinct-stop : t ≡ true → distinct (drop i xs) ≡ false
    distinct-stop u = again ∙ ap (λ b. not b && distinct (drop (i + 1) xs)) u

-- Every entry of two lists together.
pub every_append : {A : Type 0} (f : A → Bool) (xs ys : List A) → every f (xs ++ ys) ≡ (every f xs && every f ys)
unfolding every
every_append f [] ys = refl
every_append f (x ∷ xs) ys = ap (λ b. f x && b) (every_append f xs ys) ∙ sym (and_assoc (f x) _ _)
