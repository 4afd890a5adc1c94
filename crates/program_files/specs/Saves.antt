-- What can be said of the program that saves the table that a sheet leaves. Assumes nothing.
use Rattle.std.specs.Prelude.{ℕ, ◌≡◌, false, List, length, take, Ok, Err}
use Rattle.calls.specs.Answers.{ListAnswer}
use Rattle.calls.specs.Ends.{SaveEnds}
use Rattle.file_lines.specs.Loads.{LONGEST}
use Rattle.program_io.specs.Told.{Writes}
use Rattle.program_sheet.specs.Answered.{AnswersLast}
use Rattle.program_files.specs.declared.Saved.{Saved}

-- How many bytes were written into a buffer: none where that was refused.
abbrev pub count_of : ListAnswer → ℕ
count_of (Ok n) = n
count_of (Err f) = 0

-- A sheet was read up to its last line, and no reply was shown; the table after that line was saved in a buffer with
-- room for every file. The file's bytes were handed to standard output, and nothing else was.
pub record SavesInput (buffer before after : List ℕ) (r : Saved) : Type 0 where
  pub sheet : AnswersLast false buffer r.last
  pub room : length before ≡ LONGEST
  pub answer : ListAnswer
  pub saves : SaveEnds r.last.reply.table before answer after
  pub count : r.count ≡ count_of answer
  pub writes : Writes (take r.count after) 0 r.shown r.lost

-- The whole of the saving program: with some buffers.
abbrev pub SavesSheet : Saved → Type 0
SavesSheet r = (buffer before after : List ℕ) × SavesInput buffer before after r
