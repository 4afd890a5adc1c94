-- What the functions that read tokens tell their callers in the reader: private to the crates of the reader.
-- Assumes nothing.
use Rattle.std.specs.Prelude.{ℕ, ◌-◌, ◌≤◌, ◌≡◌, Bool, true, false, Option, Some, None, List, [], ◌∷◌, take, drop}
use Rattle.std.proofs.Math.Option as math
use Rattle.std.proofs.Math.Option.{none, some}
use Rattle.places.specs.declared.Place.{Place}
use Rattle.places.specs.Places.{Onward}
use Rattle.tokens.specs.Tokens.{tokens}
use Rattle.tokens.specs.declared.Token.{Token}

-- The bytes of a line from start up to end.
abbrev pub part : List ℕ → ℕ → ℕ → List ℕ
part line start end = take (end - start) (drop start line)

-- The first of the tokens, which is empty where there is none; and those after it.
abbrev pub first_of : List (List ℕ) → List ℕ
first_of [] = []
first_of (t ∷ ts) = t

abbrev pub rest_of : List (List ℕ) → List (List ℕ)
rest_of [] = []
rest_of (t ∷ ts) = ts

abbrev pub empty : List (List ℕ) → Bool
empty [] = true
empty (t ∷ ts) = false

-- t is the first token from a place on.
pub record First (line : List ℕ) (from : Place) (t : Token) : Type 0 where
  pub ordered : t.start ≤ t.next.offset
  pub onward : Onward line from t.next
  pub first : part line t.start t.next.offset ≡ first_of (tokens (drop from.offset line))
  pub rest : tokens (drop t.next.offset line) ≡ rest_of (tokens (drop from.offset line))

-- The code's number, or none, as the theory has it.
abbrev pub as_option : Option ℕ → math.Option ℕ
as_option None = none
as_option (Some n) = some n
