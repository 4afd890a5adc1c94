-- The code's reply to a line of a sheet that is a command. Assumes nothing.
use Rattle.std.specs.Prelude.{ℕ, ◌≡◌, List}
use Rattle.table.specs.declared.Table.{Table}
use Rattle.sheet_lines.specs.Commands as sheet
use Rattle.sheet_lines.specs.Readings.{is, reading}
use Rattle.fields.specs.Written.{Wrote}
use Rattle.sheet_meaning.specs.Lines.{Prints}
use Rattle.sheet_commands.specs.declared.Obeyed.{Obeyed}

-- The reply to line n of a sheet, met with the table t: what the line prints stands in the buffer from place `at` up to
-- the next place, and u is the table after it.
pub record Replies (t : Table) (n : ℕ) (line before : List ℕ) (at : ℕ) (after : List ℕ) (u : Table) (next : ℕ) :
    Type 0 where
  pub printed : List ℕ
  pub prints : Prints t n line printed u
  pub wrote : Wrote printed before at after next

-- The reply to every line that is this command; and to one that leaves the table as it is.
abbrev pub Obeys : Table → ℕ → sheet.Command → List ℕ → ℕ → List ℕ → Obeyed → Type 0
Obeys t n c before at after r =
    (line : List ℕ) → reading line ≡ is c → Replies t n line before at after r.table r.next

abbrev pub Tells : Table → ℕ → sheet.Command → List ℕ → ℕ → List ℕ → ℕ → Type 0
Tells t n c before at after next =
    (line : List ℕ) → reading line ≡ is c → Replies t n line before at after t next
