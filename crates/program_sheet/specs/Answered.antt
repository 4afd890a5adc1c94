-- What can be said of a program that answers its input as a sheet. Assumes nothing.
use Rattle.std.specs.Prelude.{ℕ, ◌≤◌, ◌<◌, ◌≡◌, Bool, true, List, length, take}
use Rattle.sheet_meaning.specs.Sheets.{start, MOST}
use Rattle.sheet_label_lines.specs.LabelLines.{LABELS_ROOM}
use Rattle.sheet_feed.specs.declared.Sheet.{Sheet}
use Rattle.sheet_feed.specs.Sheets.{StandsFor}
use Rattle.sheet_feed.specs.declared.Reply.{Reply}
use Rattle.sheet_feed.specs.Sheets.{RepliesAt}
use Rattle.program_io.specs.Told.{shown_of, Writes}
use Rattle.program_loop.specs.declared.Task.TheVariants.{Answer}
use Rattle.program_loop.specs.Takes.{TakesInput}
use Rattle.program_sheet.specs.declared.Last.{Last}

-- The reply to the last line of a sheet: handed to standard output behind the others, or, once bytes were lost, not at
-- all.
pub record RepliesLast (c : Sheet) (showing : Bool) (before after : List ℕ) (shown₀ lost₀ shown lost : ℕ) (r : Reply) :
    Type 0 where
  pub room : LABELS_ROOM ≤ length before
  pub replies : RepliesAt c before 0 after r
  pub writes : lost₀ ≡ 0 → Writes (shown_of showing (take r.next after)) shown₀ shown lost
  pub failed : 0 < lost₀ → (shown ≡ shown₀) × (lost ≡ lost₀)

-- The bytes that were read into this buffer were answered from this sheet on, and then the last line was.
pub record AnswersFrom (c : Sheet) (showing : Bool) (buffer : List ℕ) (r : Last) : Type 0 where
  pub size : length buffer ≡ MOST
  pub sheet : Sheet
  pub shown_before : ℕ
  pub lost_before : ℕ
  pub before : List ℕ
  pub after : List ℕ
  pub lines : TakesInput (Answer showing) c buffer r.read r.got shown_before lost_before sheet
  pub last : RepliesLast sheet showing before after shown_before lost_before r.shown r.lost r.reply

-- The same from the start.
pub record AnswersLast (showing : Bool) (buffer : List ℕ) (r : Last) : Type 0 where
  pub first : Sheet
  pub starts : StandsFor start first
  pub answers : AnswersFrom first showing buffer r

-- The whole of the sheet program: what was read into some buffer was answered so, each reply shown.
abbrev pub AnswersSheet : Last → Type 0
AnswersSheet r = (buffer : List ℕ) × AnswersLast true buffer r
