-- The tokens of a line (specification 6.5): separated by one or more spaces, spaces at either end allowed. Assumes
-- nothing.
use Rattle.std.specs.Prelude.{ℕ, Bool, false, cond, not, List, [], ◌∷◌, eqb}
use Rattle.places.specs.Places.{is_space}

-- A byte of a token.
abbrev pub in_token : ℕ → Bool
in_token b = not (is_space b)

-- A byte put in front of the first piece.
unfoldable pub onto : ℕ → List (List ℕ) → List (List ℕ)
onto b [] = (b ∷ []) ∷ []
onto b (p ∷ ps) = (b ∷ p) ∷ ps

-- What stands before, between and after the spaces: n of them part n + 1 pieces, of which some may be empty.
unfoldable pub pieces : List ℕ → List (List ℕ)
pieces [] = [] ∷ []
pieces (b ∷ bs) = cond (is_space b) ([] ∷ pieces bs) (onto b (pieces bs))

-- The pieces that are not empty.
unfoldable pub filled : List (List ℕ) → List (List ℕ)
filled [] = []
filled ([] ∷ ps) = filled ps
filled ((b ∷ p) ∷ ps) = (b ∷ p) ∷ filled ps

unfoldable pub tokens : List ℕ → List (List ℕ)
tokens line = filled (pieces line)

-- The token is this one byte.
unfoldable pub one : ℕ → List ℕ → Bool
one b [] = false
one b (x ∷ []) = eqb x b
one b (x ∷ y ∷ t) = false
