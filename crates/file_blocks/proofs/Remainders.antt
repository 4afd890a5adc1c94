-- The sums that start over past 65,535 are the remainders of the whole sums. Assumes nothing.
use Rattle.std.proofs.Common.{◌≡◌, ℕ, ◌+◌, ◌%◌, ◌^◌, ◌<◌, List, [], ◌∷◌, ◌++◌, length, get_or, take, sym, refl, ap, ◌∙◌, add-one, arith, take-suc}
use Rattle.file_blocks.specs.Sums.{grow_a, grow_b, sum_a, sum_b}

pub grow_a-last : (a : ℕ) (xs : List ℕ) (x : ℕ) → grow_a a (xs ++ (x ∷ [])) ≡ grow_a a xs + x
unfolding grow_a
grow_a-last a [] x = refl
grow_a-last a (y ∷ ys) x = grow_a-last (a + y) ys x

pub grow_b-last : (a b : ℕ) (xs : List ℕ) (x : ℕ) → grow_b a b (xs ++ (x ∷ [])) ≡ grow_b a b xs + (grow_a a xs + x)
unfolding grow_a grow_b
grow_b-last a b [] x = refl
grow_b-last a b (y ∷ ys) x = grow_b-last (a + y) (b + (a + y)) ys x

-- no byte yet
pub sums-start : (1 ≡ sum_a []) × (0 ≡ sum_b [])
unfolding grow_a grow_b
sums-start = (refl, refl)

module _ (bs : List ℕ) (i : ℕ) (low : i < length bs) where
  front : take (i + 1) bs ≡ take i bs ++ (get_or bs i 0 ∷ [])
  front = ap (λ (k : ℕ). take k bs) (add-one i) ∙ take-suc bs i 0 low

  grown_a : grow_a 1 (take (i + 1) bs) ≡ grow_a 1 (take i bs) + get_or bs i 0
  grown_a = ap (grow_a 1) front ∙ grow_a-last 1 (take i bs) (get_or bs i 0)

  grown_b : grow_b 1 0 (take (i + 1) bs) ≡ grow_b 1 0 (take i bs) + grow_a 1 (take (i + 1) bs)
  grown_b =
      ap (grow_b 1 0) front ∙ grow_b-last 1 0 (take i bs) (get_or bs i 0)
      ∙ ap (λ (n : ℕ). grow_b 1 0 (take i bs) + n) (sym grown_a)

  -- One step of the code's loop: sums that start over stay the remainders.
  pub sums_next :
      (a b x a' b' : ℕ) → a ≡ sum_a (take i bs) → b ≡ sum_b (take i bs) → x ≡ get_or bs i 0 → a' ≡ (a + x) % 2 ^ 16
      → b' ≡ (b + a') % 2 ^ 16 → (a' ≡ sum_a (take (i + 1) bs)) × (b' ≡ sum_b (take (i + 1) bs))
  sums_next a b x a' b' p q r s t =
      let new : a' ≡ sum_a (take (i + 1) bs) = omega (arith, grown_a) in
      (new, omega (arith, grown_b))
