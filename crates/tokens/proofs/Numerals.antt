-- Laws of numerals, as the loop over a token's bytes and the tests before it meet them. Assumes nothing.
use Prim.Native.Nat.{ℕ, ◌+◌, ◌-◌, ◌*◌, ◌^◌, ◌≤◌, ◌<◌}
use native.Mathlib.Omega.{arith}
use native.Mathlib.Numerals.{add-one}
use mathlib.Core.Path.{◌≡◌, refl, ◌∙◌}
use mathlib.Core.Bool.{true, false}
use mathlib.Core.List.{List, [], ◌∷◌}
use mathlib.Core.Option.{none, some}
use lib.ListN.{length, get_or, drop, drop_of_length-le}
use lib.Seq.{drop-cons}
use lib.Dec.{eqb, leb}
use borrow.Author.Tests.{le-leb, lt-leb, lt-ltb, le-ltb, eq-eqb, ne_eqb}
use mathlib.Core.Bool.{and-true, and-false}
use native.Mathlib.Nat.{pow-suc}
use Rattle.tokens.specs.Numerals.{is_digit, digits, value_from, needless, spelled_from, numeral}

pub digit-true : (b : ℕ) → 48 ≤ b → b ≤ 57 → is_digit b ≡ true
digit-true b l h = rw (le-leb 48 b l, le-leb b 57 h)

-- After the byte at i, the rest spells the whole.
pub spelled-more : (t : List ℕ) (i n : ℕ) → i < length t → is_digit (get_or t i 0) ≡ true
    → spelled_from (n * 10 + (get_or t i 0 - 48)) (drop (i + 1) t) ≡ spelled_from n (drop i t)
unfolding spelled_from digits value_from
spelled-more t i n h d = rw (add-one i, drop-cons t i 0 h, d)

pub spelled-other : (t : List ℕ) (i n : ℕ) → i < length t → is_digit (get_or t i 0) ≡ false
    → none ≡ spelled_from n (drop i t)
unfolding spelled_from digits value_from
spelled-other t i n h d = rw (drop-cons t i 0 h, d)

pub spelled-end : (t : List ℕ) (i n : ℕ) → length t ≤ i → some n ≡ spelled_from n (drop i t)
unfolding spelled_from digits value_from
spelled-end t i n h = rw (drop_of_length-le t h)

-- The tests before: the length, and a needless zero, which no number has, however long.
pub numeral-empty : (t : List ℕ) → length t ≡ 0 → none ≡ numeral t
unfolding numeral
numeral-empty t h = rw (lt-leb 1 (length t) (omega arith))

pub numeral-long : (t : List ℕ) → 5 < length t → none ≡ numeral t
unfolding numeral
numeral-long t h =
    let k : 1 ≤ length t = omega arith in
    rw (le-leb 1 (length t) k, lt-leb (length t) 5 h)

needless-is : (t : List ℕ) → 1 < length t → needless t ≡ eqb (get_or t 0 0) 48
unfolding needless
needless-is [] h = absurd (omega arith)
needless-is (b ∷ bs) h = let k : 0 < length bs = omega arith in rw (lt-ltb 0 (length bs) k) (and-true (eqb b 48))

needless-short : (t : List ℕ) → length t ≤ 1 → needless t ≡ false
unfolding needless
needless-short [] h = refl
needless-short (b ∷ bs) h = let k : length bs ≤ 0 = omega arith in rw (le-ltb 0 (length bs) k) (and-false (eqb b 48))

pub numeral-needless : (t : List ℕ) → 1 < length t → get_or t 0 0 ≡ 48 → none ≡ numeral t
unfolding numeral
numeral-needless t l e =
    let k : 1 ≤ length t = omega arith in
    rw (le-leb 1 (length t) k, needless-is t l, eq-eqb (get_or t 0 0) 48 e, and-false (leb (length t) 5))

numeral-spelled : (t : List ℕ) → 1 ≤ length t → length t ≤ 5 → needless t ≡ false → spelled_from 0 t ≡ numeral t
unfolding numeral
numeral-spelled t l h n = rw (le-leb 1 (length t) l, le-leb (length t) 5 h, n)

pub numeral-other : (t : List ℕ) → 1 < length t → length t ≤ 5 → (get_or t 0 0 ≡ 48 → ⊥) → spelled_from 0 t ≡ numeral t
numeral-other t l h e =
    let k : 1 ≤ length t = omega arith in
    numeral-spelled t k h (needless-is t l ∙ ne_eqb (get_or t 0 0) 48 e)

pub numeral-digit : (t : List ℕ) → 1 ≤ length t → length t ≤ 1 → spelled_from 0 t ≡ numeral t
numeral-digit t l h =
    let k : length t ≤ 5 = omega arith in
    numeral-spelled t l k (needless-short t h)

-- The digits passed spell less than a power of ten.
pub room_next : (n i d : ℕ) → n < 10 ^ i → d ≤ 9 → n * 10 + d < 10 ^ (i + 1)
room_next n i d l h = rw (add-one i, pow-suc) (omega arith)
