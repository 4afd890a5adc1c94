-- Fields as they are printed (specification 6.9): decimal numbers parted by one space. Assumes nothing.
use Rattle.std.specs.Prelude.{ℕ, zero, suc, ◌+◌, ◌/◌, ◌%◌, cond, List, [], ◌∷◌, ◌++◌, ltb}
use Prim.Native.Char.{code}

-- The decimal digits of n, where k + 1 of them are enough.
unfoldable pub decimal_in : ℕ → ℕ → List ℕ
decimal_in zero n = (code "0" + n) ∷ []
decimal_in (suc k) n = cond (ltb n 10) ((code "0" + n) ∷ []) (decimal_in k (n / 10) ++ ((code "0" + n % 10) ∷ []))

-- The decimal digits of n, as they are printed: the last one is the remainder by 10. No number has more than n + 1.
unfoldable pub decimal : ℕ → List ℕ
decimal n = decimal_in n n

-- A number behind another field.
unfoldable pub field : ℕ → List ℕ
field n = code " " ∷ decimal n

unfoldable pub fields : List ℕ → List ℕ
fields [] = []
fields (n ∷ ns) = field n ++ fields ns
