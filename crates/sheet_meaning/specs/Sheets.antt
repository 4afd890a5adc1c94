-- A sheet, read byte by byte (specification 6.1 to 6.3). Assumes nothing.
use Rattle.std.specs.Prelude.{ℕ, suc, ◌≡◌, List, [], ◌∷◌, ◌++◌, take}
use Rattle.table.specs.declared.Table.{Table}
use Rattle.table.specs.Clean.{empty_table}
use Rattle.fields.specs.Texts.{NEWLINE}
use Rattle.sheet_meaning.specs.Lines.{Prints}

-- Where the reading of a sheet stands: the table after its whole lines, and the number and the bytes so far of the line
-- at hand.
pub record State : Type 0 where
  pub table : Table
  pub number : ℕ
  pub line : List ℕ

-- The start: the empty table, and no byte of line 1.
abbrev pub start : State
start = record { table = empty_table; number = 1; line = [] }

-- More bytes of the line at hand; the line at hand ended, with the table after it. Every line counts, without an end.
abbrev pub longer : State → List ℕ → State
longer s bs = record { table = s.table; number = s.number; line = s.line ++ bs }

abbrev pub ended : State → Table → State
ended s u = record { table = u; number = suc s.number; line = [] }

-- These bytes of a sheet, what they print, and where the reading stands after them. A newline ends a line.
pub data Reads : State → List ℕ → List ℕ → State → Type 0 where
  stop : {s : State} → Reads s [] [] s
  byte :
      {s v : State} {b : ℕ} {bs out : List ℕ} → (b ≡ NEWLINE → ⊥) → Reads (longer s (b ∷ [])) bs out v
      → Reads s (b ∷ bs) out v
  newline :
      {s v : State} {u : Table} {bs printed out : List ℕ} → Prints s.table s.number s.line printed u
      → Reads (ended s u) bs out v → Reads s (NEWLINE ∷ bs) (printed ++ out) v

-- All that a sheet prints: what its bytes print, and then its last line, which may lack the newline.
pub record SheetPrints (input out : List ℕ) : Type 0 where
  pub printed : List ℕ
  pub last : List ℕ
  pub before_last : State
  pub after : Table
  pub reads : Reads start input printed before_last
  pub prints : Prints before_last.table before_last.number before_last.line last after
  pub whole : out ≡ printed ++ last

-- Every program reads at most so many bytes of its input, as if it ended there.
abbrev pub MOST : ℕ
MOST = 1048576

-- The part of an input that a program reads.
abbrev pub cut : List ℕ → List ℕ
cut input = take MOST input

-- All that a program prints of an input: what the part that it reads prints.
abbrev pub ProgramPrints : List ℕ → List ℕ → Type 0
ProgramPrints input out = SheetPrints (cut input) out
