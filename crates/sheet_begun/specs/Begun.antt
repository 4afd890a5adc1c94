-- The line at hand of a sheet, and what tells it. Assumes nothing.
use Rattle.std.specs.Prelude.{ℕ, ◌+◌, ◌≤◌, ◌≡◌, List, ◌++◌, take}
use Rattle.sheet_lines.specs.declared.Parsed.{Parsed}
use Rattle.sheet_lines.specs.Readings.{LINE, TOKENS, reading, Answers}
use Rattle.sheet_begun.specs.declared.Begun.{Begun}

-- How many bytes of a line the code holds: one more than a line may have. They are enough to tell what the line is.
abbrev pub ENOUGH : ℕ
ENOUGH = LINE + 1

-- The line at hand has this number and begins with the bytes that are held. A length that passes the array counts as
-- far as the array goes. So every `Begun` stands for a line (the law `begun-of-some`).
pub record BegunOf (n : ℕ) (line : List ℕ) (k : Begun) : Type 0 where
  pub number : k.number ≡ n
  pub bytes : take k.length k.bytes ≡ take ENOUGH line

-- Bytes behind the line at hand.
abbrev pub Longer : Begun → List ℕ → Begun → Type 0
Longer k bytes r = (n : ℕ) (line : List ℕ) → BegunOf n line k → BegunOf n (line ++ bytes) r

-- The line at hand, with these bytes behind it, was read so: in its line, and as what every such line is.
pub record ReadsAs (k : Begun) (bytes : List ℕ) (p : Parsed) : Type 0 where
  pub number : p.place.line ≡ k.number
  pub within : p.positives + p.negatives ≤ TOKENS
  pub answers : (n : ℕ) (line : List ℕ) → BegunOf n line k → Answers (reading (line ++ bytes)) p
