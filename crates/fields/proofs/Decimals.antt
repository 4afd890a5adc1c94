-- Laws of decimal digits: one digit at a time, and how many a number below a power of ten has. Assumes nothing.
use Prim.Native.Nat.{ℕ, zero, suc, ◌+◌, ◌/◌, ◌%◌, ◌^◌, ◌≤◌, ◌<◌}
use native.Mathlib.Omega.{arith}
use native.Mathlib.Numerals.{add-one}
use native.Mathlib.Nat.{pow-suc}
use mathlib.Core.Path.{◌≡◌, refl, sym, ◌∙◌, ap}
use mathlib.Core.Bool.{Bool, true, false}
use mathlib.Core.List.{List, [], ◌∷◌, ◌++◌, append_assoc}
use lib.ListN.{length, drop, set, length-append}
use lib.Dec.{ltb}
use borrow.Author.Tests.{lt-ltb, le-ltb, ltb-true, ltb-false}
use Rattle.fields.specs.Fields.{decimal_in, decimal}
use Rattle.fields.proofs.Buffers.{store-front}

-- More than enough digits allowed are as good as enough.
enough : (j k n : ℕ) → n ≤ j → n ≤ k → decimal_in j n ≡ decimal_in k n
unfolding decimal_in
enough zero zero n g h = refl
enough zero (suc k) n g h = let l : n < 10 = omega arith in rw (lt-ltb n 10 l)
enough (suc j) zero n g h = let l : n < 10 = omega arith in rw (lt-ltb n 10 l)
enough (suc j) (suc k) n g h = go (ltb n 10) refl (enough j k (n / 10))
  where
    go : (t : Bool) → ltb n 10 ≡ t → (n / 10 ≤ j → n / 10 ≤ k → decimal_in j (n / 10) ≡ decimal_in k (n / 10))
        → decimal_in (suc j) n ≡ decimal_in (suc k) n
    go true t e = rw t
    go false t e =
        let l : 10 ≤ n = ltb-false n 10 t in
        let m : n / 10 ≤ j = omega arith in
        let o : n / 10 ≤ k = omega arith in
        rw (t, e m o)

pub decimal-last : (n : ℕ) → 10 ≤ n → decimal n ≡ decimal (n / 10) ++ ((48 + n % 10) ∷ [])
unfolding decimal decimal_in
decimal-last zero l = absurd (omega arith)
decimal-last (suc m) l =
    let k : suc m / 10 ≤ m = omega arith in
    rw (le-ltb (suc m) 10 l)
    (ap (λ (ds : List ℕ). ds ++ ((48 + suc m % 10) ∷ [])) (enough m (suc m / 10) (suc m / 10) k (omega arith)))

pub decimal_digit : (n : ℕ) → n < 10 → decimal n ≡ (48 + n) ∷ []
unfolding decimal decimal_in
decimal_digit zero l = refl
decimal_digit (suc m) l = rw (lt-ltb (suc m) 10 l)

-- A loop that takes digits from the end and stores each in front of those stored: what is left and what is stored
-- give the whole.
module _ (digits : List ℕ) (i rest : ℕ) (inside : i < length digits) (whole : List ℕ)
    (inv : decimal rest ++ drop (i + 1) digits ≡ whole) where
  pub digit-next : 10 ≤ rest → decimal (rest / 10) ++ drop i (set digits i (48 + rest % 10)) ≡ whole
  digit-next l =
      ap (λ (ds : List ℕ). decimal (rest / 10) ++ ds) (store-front digits i (48 + rest % 10) inside)
      ∙ sym (append_assoc (decimal (rest / 10)) ((48 + rest % 10) ∷ []) (drop (i + 1) digits))
      ∙ ap (λ (ds : List ℕ). ds ++ drop (i + 1) digits) (sym (decimal-last rest l))
      ∙ inv

  pub digit-first : rest < 10 → drop i (set digits i (48 + rest)) ≡ whole
  digit-first l =
      store-front digits i (48 + rest) inside
      ∙ ap (λ (ds : List ℕ). ds ++ drop (i + 1) digits) (sym (decimal_digit rest l))
      ∙ inv

-- There is room for all digits.
pub room-for-more : (rest i : ℕ) → rest < 10 ^ (i + 1) → 10 ≤ rest → 0 < i
room-for-more rest zero l h = absurd (omega arith)
room-for-more rest (suc i) l h = omega arith

pub room-behind : (rest i : ℕ) → rest < 10 ^ (i + 1) → rest / 10 < 10 ^ i
room-behind rest i l = let k = rw (add-one i, pow-suc) at l in omega arith

-- A number below 10 ^ (k + 1) has at most k + 1 digits.
pub decimal-length : (k n : ℕ) → n < 10 ^ (k + 1) → length (decimal n) ≤ k + 1
decimal-length zero n l = rw (decimal_digit n l) (omega arith)
decimal-length (suc k) n l = go (ltb n 10) refl (decimal-length k (n / 10))
  where
    go : (t : Bool) → ltb n 10 ≡ t → (n / 10 < 10 ^ (k + 1) → length (decimal (n / 10)) ≤ k + 1)
        → length (decimal n) ≤ suc k + 1
    go true t e = rw (decimal_digit n (ltb-true n 10 t)) (omega arith)
    go false t e =
        let fewer = e (rw (add-one k) (room-behind n (suc k) l)) in
        rw (decimal-last n (ltb-false n 10 t), length-append) (omega arith)
