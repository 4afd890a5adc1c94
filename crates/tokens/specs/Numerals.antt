-- Numbers in decimal digits, as a line has them (specification 6.6). Assumes nothing.
use Rattle.std.specs.Prelude.{ℕ, ◌+◌, ◌-◌, ◌*◌, Bool, true, false, cond, not, ◌&&◌, List, [], ◌∷◌, eqb, leb, ltb, length}
use Prim.Native.Char.{code}
use Rattle.std.proofs.Math.Option.{Option, none, some}

-- The decimal digits are the bytes from `0` to `9`, which are 48 to 57.
abbrev pub is_digit : ℕ → Bool
is_digit b = leb (code "0") b && leb b (code "9")

unfoldable pub digits : List ℕ → Bool
digits [] = true
digits (b ∷ bs) = is_digit b && digits bs

-- The number that digits spell after others that spell n.
unfoldable pub value_from : ℕ → List ℕ → ℕ
value_from n [] = n
value_from n (b ∷ bs) = value_from (n * 10 + (b - code "0")) bs

-- A zero stands needlessly in front of another digit.
unfoldable pub needless : List ℕ → Bool
needless [] = false
needless (b ∷ bs) = eqb b (code "0") && ltb 0 (length bs)

-- What digits spell after others that spell n, if all are digits.
unfoldable pub spelled_from : ℕ → List ℕ → Option ℕ
spelled_from n bs = cond (digits bs) (some (value_from n bs)) none

-- A number has 1 to 5 decimal digits and no needless leading zero.
unfoldable pub numeral : List ℕ → Option ℕ
numeral token =
    cond (leb 1 (length token) && (leb (length token) 5 && not (needless token))) (spelled_from 0 token) none
