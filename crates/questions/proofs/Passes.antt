-- Laws of a test that is denied, and of a pass that tests each place. Assumes nothing.
use Prim.Native.Nat.{ℕ, ◌-◌, ◌≤◌, ◌<◌}
use native.Mathlib.Omega.{arith}
use mathlib.Core.Path.{◌≡◌, refl, sym, ◌∙◌, ap, subst}
use mathlib.Core.Logic.{◌⊎◌, inl, inr, ⊎_elim, ◌↔◌}
use mathlib.Core.Bool.{Bool, true, false, not, ◌&&◌, true≢false}
use mathlib.Core.List.{List, [], ◌∷◌}
use lib.Dec.{eqb}
use lib.ListN.{length, take, drop, get_or, get_or-eq_default}
use Rattle.std.proofs.lemmas.List.{take_rest}
use Rattle.std.proofs.lemmas.List.FromFn.{get_or-range_with_len, length-range_with_len}
use Rattle.std.specs.Bool.{MatchBool}
use Rattle.std.specs.List.{list_all, list_any, AllWithin, HoldsAt, range_with_len}
use Rattle.theory.specs.Lists.{every, any}
use Rattle.theory.proofs.Lists.{eqb-eq, eqb_of, same_test, not-true, not-false, clash, le-or-lt}
use Rattle.table.specs.Sets.{member}
use Rattle.questions.proofs.Cleanness.{is_not}

-- Two numbers are equal or not.
pub equal? : (a b : ℕ) → (a ≡ b) ⊎ (a ≡ b → ⊥)
equal? a b = ⊎_elim
    (λ (l : a ≤ b). ⊎_elim (λ (k : b ≤ a). inl (omega arith)) (λ (k : a < b). inr (λ z. omega arith)) (le-or-lt b a))
    (λ (l : b < a). inr (λ z. omega arith))
    (le-or-lt a b)

-- An exact test t of Q that is denied in the code: `if !t`.
module _ {Q : Type 0} (t : Bool) (told : (t ≡ true) ↔ Q) where
  pub refused : not t ≡ true → Q → ⊥
  refused u q = clash (told.1 q) (not-true t u)

  pub granted : not t ≡ false → Q
  granted u = told.0 (not-false t u)

-- A pass over the places below n stops at the first that fails, or comes to the end.
module _ (Q : ℕ → Type 0) (n i : ℕ) where
  pub stops : i < n → (Q i → ⊥) → (false ≡ true) ↔ ((k : ℕ) → k < n → Q k)
  stops l f = is_not (λ h. f (h i l))

  pub ends : n ≤ i → ((k : ℕ) → k < i → Q k) → (true ≡ true) ↔ ((k : ℕ) → k < n → Q k)
  ends l h = (λ t k m. h k (omega arith), λ w. refl)

-- p without q, as a test: found or not.
pub without : (p q : Bool) → (p && not q) ≡ true → (p ≡ true → q ≡ true) → ⊥
without true true t f = true≢false (sym t)
without true false t f = true≢false (sym (f refl))
without false q t f = true≢false (sym t)

pub with : (p q : Bool) → (p && not q) ≡ false → p ≡ true → q ≡ true
with true true t u = refl
with true false t u = sym t
with false q t u = absurd (true≢false (sym u))

-- A set has no atom past its array's end.
pub member_below : (flags : List Bool) (n : ℕ) → length flags ≡ n → (a : ℕ) → member flags a ≡ true → a < n
member_below flags n l a t = ⊎_elim
    (λ (h : n ≤ a). absurd (clash t (get_or-eq_default flags false (omega arith))))
    (λ (h : a < n). h)
    (le-or-lt n a)

-- The theory's words for what an iterator's `all` and a slice's `contains` answer.
pub every_all : {A : Type 0} (f : A → Bool) (xs : List A) → list_all f xs ≡ every f xs
unfolding every
every_all f [] = refl
every_all f (x ∷ xs) = ap (λ b. f x && b) (every_all f xs)

eqb_turned : (x y : ℕ) → eqb x y ≡ eqb y x
eqb_turned x y =
    same_test _ _ (λ t. eqb_of y x (sym (eqb-eq x y t))) (λ t. eqb_of x y (sym (eqb-eq y x t)))

any_same : (x : ℕ) (xs : List ℕ) → list_any (λ y. eqb y x) xs ≡ any (eqb x) xs
unfolding any
any_same x [] = refl
any_same x (y ∷ ys) = rw (eqb_turned y x, any_same x ys)

pub any_rest : (x : ℕ) (xs : List ℕ) (i : ℕ)
    → list_any (λ y. eqb y x) (take (length xs - i) (drop i xs)) ≡ any (eqb x) (drop i xs)
any_rest x xs i = ap (list_any (λ y. eqb y x)) (take_rest xs i) ∙ any_same x (drop i xs)

-- What `all` answers over the places below n.
module _ (Q : ℕ → Type 0) (n : ℕ) where
  place : (k : ℕ) → k < n → get_or (range_with_len 0 n) k 0 ≡ k
  place k l = (let e = get_or-range_with_len 0 n k 0 l in omega (arith, e))

  pub all_places :
      (t : Bool)
      → MatchBool t
      (AllWithin Q (range_with_len 0 n) 0 (length (range_with_len 0 n)))
      ((k : ℕ) × (k < length (range_with_len 0 n)) × HoldsAt (λ k. Q k → ⊥) (range_with_len 0 n) k)
      → (t ≡ true) ↔ ((k : ℕ) → k < n → Q k)
  all_places true h = (
    λ u k l. subst Q (place k l) (h k 0 (omega arith) (omega (arith, l, length-range_with_len 0 n))),
    λ w. refl,
  )
  all_places false h = (
    λ u. absurd (clash u refl),
    λ w.
        let l : h.0 < n = omega (arith, h.1, length-range_with_len 0 n) in
        absurd (h.2 0 (subst Q (sym (place h.0 l)) (w h.0 l))),
  )
