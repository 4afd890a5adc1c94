-- What questions 14 and 13 make of a line (specification 6.8). Assumes nothing.
use Rattle.std.specs.Prelude.{ℕ, ◌≡◌, List}
use Rattle.table.specs.declared.Table.{Table}
use Rattle.sheet_lines.specs.declared.Parsed.{Parsed}
use Rattle.sheet_lines.specs.declared.Reading.{Reading}
use Rattle.sheet_lines.specs.declared.Reading.TheVariants as reading-of
use Rattle.sheet_lines.specs.Readings.{is, reading, reading_of, command_of, positives_in, negatives_in}
use Rattle.fields.specs.Written.{Wrote}
use Rattle.sheet_meaning.specs.Lines.{Prints}
use Rattle.sheet_scanner.specs.declared.Judged.{Judged}
use Rattle.sheet_scanner.specs.declared.Judged.TheVariants as judged

-- A line that was answered whatever the table is, which stays: what it prints stands in the buffer from place `at` on.
pub record Answered (n : ℕ) (line before : List ℕ) (at : ℕ) (after : List ℕ) (next : ℕ) : Type 0 where
  pub printed : List ℕ
  pub prints : (t : Table) → Prints t n line printed t
  pub wrote : Wrote printed before at after next

-- What the questions make of every line that was read so: it was answered; or it is the command, and nothing was
-- written.
abbrev pub Judges : Parsed → List ℕ → ℕ → List ℕ → Judged → Type 0
Judges p before at after (judged.Told next) =
    (line : List ℕ) → reading line ≡ reading_of p → Answered p.place.line line before at after next
Judges p before at after (judged.Command c) =
    (reading_of p ≡ is (command_of c (positives_in p) (negatives_in p))) × (after ≡ before)

-- Private: the same where a line was neither blank nor too long.
abbrev pub Unless : Reading → Type 0 → Type 0
Unless reading-of.Blank P = Unit {0}
Unless reading-of.LineTooLong P = Unit {0}
Unless reading-of.NotACommand P = P
Unless (reading-of.Command c) P = P

abbrev pub Unread : Parsed → List ℕ → ℕ → List ℕ → Judged → Type 0
Unread p before at after r = Unless p.reading (Judges p before at after r)
