-- What is printed of a number reads back as that number. Assumes nothing.
use Prim.Native.Nat.{ℕ, zero, suc, ◌+◌, ◌-◌, ◌*◌, ◌/◌, ◌%◌, ◌^◌, ◌≤◌, ◌<◌}
use native.Mathlib.Omega.{arith}
use native.Mathlib.Nat.{pow-suc}
use mathlib.Core.Path.{◌≡◌, refl, sym, ◌∙◌}
use mathlib.Core.Bool.{Bool, true, false}
use mathlib.Core.List.{List, [], ◌∷◌, ◌++◌}
use mathlib.Core.Option.{some}
use lib.ListN.{length, get_or, length-append, get_or-append}
use lib.Dec.{leb, ltb}
use borrow.Author.Tests.{lt-ltb, ltb-true, ltb-false, leb-true, leb-false}
use Rattle.tokens.specs.Numerals.{is_digit, digits, value_from, needless, spelled_from, numeral}
use Rattle.fields.specs.Fields.{decimal_in, decimal}
use Rattle.tokens.proofs.Numerals.{digit-true, numeral-other, numeral-digit}

value-snoc : (m : ℕ) (bs : List ℕ) (d : ℕ) → value_from m (bs ++ ((48 + d) ∷ [])) ≡ value_from m bs * 10 + d
unfolding value_from
value-snoc m [] d = let e : (48 + d) - 48 ≡ d = omega arith in rw e
value-snoc m (b ∷ bs) d = value-snoc (m * 10 + (b - 48)) bs d

digits-snoc : (bs : List ℕ) (b : ℕ) → digits bs ≡ true → is_digit b ≡ true → digits (bs ++ (b ∷ [])) ≡ true
unfolding digits
digits-snoc [] b e t = rw t
digits-snoc (x ∷ bs) b e t = go (is_digit x) refl e (digits-snoc bs b)
  where
    go : (s : Bool) → is_digit x ≡ s → digits (x ∷ bs) ≡ true
        → (digits bs ≡ true → is_digit b ≡ true → digits (bs ++ (b ∷ [])) ≡ true)
        → digits (x ∷ (bs ++ (b ∷ []))) ≡ true
    go true s e h = rw s (h (rw s at e) t)
    go false s e h = rw s (rw s at e)

-- What holds of the digits of n, of which at most k + 1 are allowed and at most j + 1 are needed.
record Spells (n j : ℕ) (ds : List ℕ) : Type 0 where
  value : value_from 0 ds ≡ n
  proper : digits ds ≡ true
  some_digit : 1 ≤ length ds
  few : length ds ≤ suc j
  no_zero : 0 < n → get_or ds 0 0 ≡ 48 → ⊥

one-digit : (n j : ℕ) → n < 10 → Spells n j ((48 + n) ∷ [])
unfolding value_from digits
one-digit n j l =
    record {
      value = omega arith;
      proper = rw (digit-true (48 + n) (omega arith) (omega arith));
      some_digit = omega arith;
      few = omega arith;
      no_zero = λ h e. omega arith;
    }

one_more : (n j : ℕ) (ds : List ℕ) → 10 ≤ n → Spells (n / 10) j ds → Spells n (suc j) (ds ++ ((48 + n % 10) ∷ []))
one_more n j ds t s =
    let long = length-append ds ((48 + n % 10) ∷ []) in
    let front = get_or-append ds ((48 + n % 10) ∷ []) 0 0 s.some_digit in
    record {
      value = value-snoc 0 ds (n % 10) ∙ omega (arith, s.value);
      proper = digits-snoc ds (48 + n % 10) s.proper (digit-true (48 + n % 10) (omega arith) (omega arith));
      some_digit = omega (arith, s.some_digit);
      few = omega (arith, s.few);
      no_zero = λ u e. s.no_zero (omega arith) (sym front ∙ e);
    }

spells : (k j n : ℕ) → n ≤ k → n < 10 ^ suc j → Spells n j (decimal_in k n)
unfolding decimal_in
spells zero j n h l = one-digit n j (omega arith)
spells (suc k) zero n h l = let m : n < 10 = l in rw (lt-ltb n 10 m) (one-digit n 0 m)
spells (suc k) (suc j) n h l = go (ltb n 10) refl (spells k j (n / 10))
  where
    go : (t : Bool) → ltb n 10 ≡ t → (n / 10 ≤ k → n / 10 < 10 ^ suc j → Spells (n / 10) j (decimal_in k (n / 10)))
        → Spells n (suc j) (decimal_in (suc k) n)
    go true t f = rw t (one-digit n (suc j) (ltb-true n 10 t))
    go false t f =
        let m : 10 ≤ n = ltb-false n 10 t in
        let p = rw (pow-suc 10 (suc j)) at l in
        rw t (one_more n j (decimal_in k (n / 10)) m (f (omega arith) (omega arith)))

-- A number of at most five digits reads back.
pub decimal-reads : (n : ℕ) → n < 100000 → numeral (decimal n) ≡ some n
unfolding decimal decimal_in numeral needless spelled_from digits value_from
decimal-reads zero l = refl
decimal-reads (suc m) l = reads (decimal_in (suc m) (suc m)) (spells (suc m) 4 (suc m) (omega arith) l)
  where
    reads : (ds : List ℕ) → Spells (suc m) 4 ds → numeral ds ≡ some (suc m)
    reads ds s =
        let spelled : spelled_from 0 ds ≡ some (suc m) = rw (s.proper, s.value) in
        let no_zero = s.no_zero (omega arith) in
        let go : (t : Bool) → leb (length ds) 1 ≡ t → numeral ds ≡ some (suc m) =
        elim [
          | true ↦ λ t. sym (numeral-digit ds s.some_digit (leb-true (length ds) 1 t)) ∙ spelled
          | false ↦ λ t. sym (numeral-other ds (leb-false (length ds) 1 t) s.few no_zero) ∙ spelled
        ] in
        go (leb (length ds) 1) refl
