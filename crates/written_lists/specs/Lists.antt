-- Private to the crates behind the calls: the numbers that pass a test, as a list. Assumes nothing.
use Rattle.std.specs.Prelude.{ℕ, zero, suc, Bool, true, false, List, [], ◌∷◌, ◌++◌}

-- The number, if the test is passed.
abbrev pub listed_if : Bool → ℕ → List ℕ
listed_if true x = x ∷ []
listed_if false x = []

-- The numbers below n that pass the test, ascending.
unfoldable pub below : (ℕ → Bool) → ℕ → List ℕ
below f zero = []
below f (suc n) = below f n ++ listed_if (f n) n

-- The most flags of which a list is written: as many as 16 bits number, which atoms and slots have.
abbrev pub most_flags : ℕ
most_flags = 65536
