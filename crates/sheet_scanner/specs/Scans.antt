-- A piece of a sheet scanned without the table. Assumes nothing.
use Rattle.std.specs.Prelude.{ℕ, ◌+◌, ◌-◌, ◌^◌, ◌≤◌, ◌<◌, ◌≡◌, Bool, true, false, not, Option, Some, None, List, eqb, length, take, drop, get_or}
use Rattle.fields.specs.Texts.{NEWLINE}
use Rattle.fields.specs.Written.{Wrote}
use Rattle.places.specs.Places.{leading}
use Rattle.sheet_lines.specs.Readings.{TOKENS, is, reading, command_of, positives_in, negatives_in}
use Rattle.sheet_label_lines.specs.LabelLines.{LABELS_ROOM}
use Rattle.sheet_meaning.specs.Sheets.{State, Reads}
use Rattle.sheet_begun.specs.declared.Begun.{Begun}
use Rattle.sheet_begun.specs.Begun.{BegunOf}
use Rattle.sheet_scanner.specs.declared.FoundCommand.{FoundCommand}
use Rattle.sheet_scanner.specs.declared.Scanned.{Scanned}

-- A byte of a line: any but the newline.
abbrev pub of_line : ℕ → Bool
of_line b = not (eqb b NEWLINE)

-- How many bytes stand before the first newline.
abbrev pub line_end : List ℕ → ℕ
line_end bs = leading of_line bs

-- A command was found: the line at hand is that command.
abbrev pub IsCommand : Option FoundCommand → List ℕ → Type 0
IsCommand None line = Unit {0}
IsCommand (Some f) line = reading line ≡ is (command_of f.command (positives_in f.parsed) (negatives_in f.parsed))

-- From a state, the input's bytes from an offset on were read up to r.read, and the table stayed; what they print
-- stands in the buffer from place `at` on.
pub record ScansFrom (s : State) (input : List ℕ) (from : ℕ) (before : List ℕ) (at : ℕ) (after : List ℕ) (r : Scanned) :
    Type 0 where
  pub state : State
  pub printed : List ℕ
  pub table : state.table ≡ s.table
  pub line : BegunOf state.number state.line r.begun
  pub command : IsCommand r.found state.line
  pub reads : Reads s (take (r.read - from) (drop from input)) printed state
  pub wrote : Wrote printed before at after r.printed

-- Where a command was found: its newline comes next, there is room for its reply, and it was read, in the line at hand,
-- as what some line is.
pub record AtCommand (f : FoundCommand) (input before : List ℕ) (r : Scanned) : Type 0 where
  pub inside : r.read < length input
  pub newline : get_or input r.read 0 ≡ NEWLINE
  pub room : r.printed + LABELS_ROOM ≤ length before
  pub number : f.parsed.place.line ≡ r.begun.number
  pub within : f.parsed.positives + f.parsed.negatives ≤ TOKENS
  pub over : r.more ≡ false
  pub line : List ℕ
  pub command : reading line ≡ is (command_of f.command (positives_in f.parsed) (negatives_in f.parsed))

abbrev pub WhereFound : Option FoundCommand → List ℕ → List ℕ → Scanned → Type 0
WhereFound None input before r = Unit {0}
WhereFound (Some f) input before r = AtCommand f input before r

-- The same from every state whose line this is at hand, as long as line numbers fit 32 bits: no line is without a byte,
-- so none passes the number at hand and the bytes read.
pub record Scans (k : Begun) (input : List ℕ) (from : ℕ) (before : List ℕ) (at : ℕ) (after : List ℕ) (r : Scanned) :
    Type 0 where
  pub begun : from ≤ r.read
  pub read : r.read ≤ length input
  pub printed : r.printed ≤ length before
  pub same_length : length after ≡ length before
  pub found : WhereFound r.found input before r
  pub scans :
      (s : State) → BegunOf s.number s.line k → s.number + (r.read - from) < 2 ^ 32
      → ScansFrom s input from before at after r

-- Where nothing was found.
abbrev pub IfNothing : Option FoundCommand → Type 0 → Type 0
IfNothing None P = P
IfNothing (Some f) P = Unit {0}

-- One line was scanned: something was read of it, and where the next may not be scanned too, the piece has ended.
pub record ScansOne (input : List ℕ) (from : ℕ) (r : Scanned) : Type 0 where
  pub some : from < length input → IfNothing r.found (from < r.read)
  pub more : r.more ≡ true → from < r.read
  pub ended : r.more ≡ false → IfNothing r.found (r.read ≡ length input)

-- Why a scan ended: at a command, at the end of the piece, or without room for another reply.
pub record ScansAll (input : List ℕ) (from : ℕ) (before : List ℕ) (r : Scanned) : Type 0 where
  pub some : from < length input → IfNothing r.found (from < r.read)
  pub ended :
      r.read < length input → IfNothing r.found (length before < r.printed + LABELS_ROOM)
