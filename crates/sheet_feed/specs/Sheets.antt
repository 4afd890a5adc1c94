-- The code's sheet that comes in pieces, and the reply to its line at hand. Assumes nothing.
use Rattle.std.specs.Prelude.{ℕ, ◌+◌, ◌-◌, ◌^◌, ◌≤◌, ◌<◌, ◌≡◌, cond, List, [], ◌++◌, leb, length, take, drop, Ok, Err}
use Rattle.calls.specs.Answers.{ChangeAnswer}
use Rattle.refusals.specs.declared.Refusal.TheVariants.{BufferTooShort}
use Rattle.fields.specs.Written.{Wrote}
use Rattle.sheet_label_lines.specs.LabelLines.{LABELS_ROOM}
use Rattle.sheet_meaning.specs.Sheets.{State, Reads}
use Rattle.sheet_begun.specs.Begun.{BegunOf}
use Rattle.sheet_commands.specs.Commands.{Replies}
use Rattle.sheet_feed.specs.declared.Sheet.{Sheet}
use Rattle.sheet_feed.specs.declared.Fed.{Fed}
use Rattle.sheet_feed.specs.declared.Reply.{Reply}

-- The code's sheet stands for a state.
pub record StandsFor (s : State) (c : Sheet) : Type 0 where
  pub table : c.table ≡ s.table
  pub line : BegunOf s.number s.line c.begun

-- Question 11 of a buffer with so many bytes left: no reply is longer than the lines of all labels. The refusal says
-- how many are needed.
abbrev pub answer_in : ℕ → ChangeAnswer
answer_in left = cond (leb LABELS_ROOM left) (Ok tt) (Err (BufferTooShort LABELS_ROOM))

-- From a state, the input's bytes from an offset on were read up to r.read; what they print stands in the buffer from
-- place `at` on.
pub record FeedsFrom (s : State) (input : List ℕ) (from : ℕ) (before : List ℕ) (at : ℕ) (r : Fed) (after : List ℕ) :
    Type 0 where
  pub state : State
  pub printed : List ℕ
  pub stands : StandsFor state r.sheet
  pub reads : Reads s (take (r.read - from) (drop from input)) printed state
  pub wrote : Wrote printed before at after r.printed

-- The same from every state that the sheet stands for, as long as line numbers fit 32 bits: no line is without a byte,
-- so none passes the number at hand and the bytes read.
pub record Feeds (c : Sheet) (input : List ℕ) (from : ℕ) (before : List ℕ) (at : ℕ) (r : Fed) (after : List ℕ) :
    Type 0 where
  pub begun : from ≤ r.read
  pub read : r.read ≤ length input
  pub printed : r.printed ≤ length before
  pub same_length : length after ≡ length before
  pub feeds :
      (s : State) → StandsFor s c → s.number + (r.read - from) < 2 ^ 32 → FeedsFrom s input from before at r after

-- Why feeding ended, where the buffer has this length: at the end of the input, or without room for another reply. A
-- buffer without room for any is refused, and nothing is read.
pub record FeedsAll (input before : List ℕ) (r : Fed) : Type 0 where
  pub answer : r.answer ≡ answer_in (length before)
  pub ended : r.read < length input → length before < r.printed + LABELS_ROOM
  pub some : 0 < length input → LABELS_ROOM ≤ length before → 0 < r.read
  pub none : length before < LABELS_ROOM → r.read ≡ 0

-- The reply to the line at hand, of every state that the sheet stands for, if there is room for every reply; else 11 is
-- refused, and nothing is done.
pub record RepliesAt (c : Sheet) (before : List ℕ) (at : ℕ) (after : List ℕ) (r : Reply) : Type 0 where
  pub inside : at ≤ length before → r.next ≤ length before
  pub same_length : length after ≡ length before
  pub answer : r.answer ≡ answer_in (length before - at)
  pub replies :
      at + LABELS_ROOM ≤ length before → (s : State) → StandsFor s c
      → Replies s.table s.number s.line before at after r.table r.next
  pub short :
      (at + LABELS_ROOM ≤ length before → ⊥) → (r.table ≡ c.table) × (r.next ≡ at) × (after ≡ before)

-- A sheet fed piece by piece, each from where the last stood: the bytes that were read, and those that were printed,
-- one after another. What isn't read of a piece is fed again.
pub data Pieces : Sheet → List ℕ → List ℕ → Sheet → Type 0 where
  none : {c : Sheet} → Pieces c [] [] c
  piece :
      {c d : Sheet} {input before after bytes out : List ℕ} {r : Fed} → Feeds c input 0 before 0 r after
      → Pieces r.sheet bytes out d → Pieces c (take r.read input ++ bytes) (take r.printed after ++ out) d
