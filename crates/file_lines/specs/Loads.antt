-- What is printed of a file's bytes, whatever they are. Assumes nothing.
use Rattle.std.specs.Prelude.{ℕ, ◌*◌, ◌≤◌, ◌<◌, ◌≡◌, List, length, Ok, Err}
use Rattle.std.proofs.Math.Option.{Option, none, some}
use Rattle.theory.specs.Limits.{document}
use Rattle.theory.specs.Questions.{first_no}
use Rattle.table.specs.declared.Table.{Table}
use Rattle.table.specs.Labels.{label_at}
use Rattle.file_blocks.specs.Files.{BLOCK, BLOCKS}
use Rattle.file_blocks.specs.Questions.{file_questions, pages_of}
use Rattle.calls.specs.Answers.{ChangeAnswer, ListAnswer}
use Rattle.refusals.specs.declared.Refusal.TheVariants.{BufferTooShort}
use Rattle.refusals.specs.Refusals.{number_of}
use Rattle.calls.specs.Ends.{LoadEnds}
use Rattle.fields.specs.Texts.{bytes}
use Rattle.fields.specs.Written.{Wrote}
use Rattle.sheet_printing.specs.Printed.{named}
use Rattle.sheet_label_lines.specs.LabelLines.{LABELS_ROOM, label_lines}
use Rattle.sheet_meaning.specs.Seen.{SeesLabels}

-- `refused` and the number, alone on its line.
abbrev pub refused_line : ℕ → List ℕ
refused_line k = named (bytes "refused") k

-- The lines that tell how a load ended: those of the labels of the table handed back, as `L` prints them, or that of
-- the refusal.
abbrev pub tell_load : ChangeAnswer → Table → List ℕ
tell_load (Ok done) u = label_lines (label_at u.words) document.atoms
tell_load (Err f) u = refused_line (number_of f)

-- What is printed of a file's bytes, whatever they are.
pub record LoadPrints (file out : List ℕ) : Type 0 where
  pub answer : ChangeAnswer
  pub table : Table
  pub ends : LoadEnds file answer table
  pub told : out ≡ tell_load answer table

-- The same by the plain book alone: of 16, 17, 18 and 19 the first answered no is the refusal; else the labels are
-- those defined for the pages that the file has, in the one admissible model of their unmuted rules.
abbrev pub LoadSeen : List ℕ → Option ℕ → List ℕ → Type 0
LoadSeen file (some k) out = out ≡ refused_line k
LoadSeen file none out = SeesLabels (pages_of document file) out

abbrev pub BookLoads : List ℕ → List ℕ → Type 0
BookLoads file out = LoadSeen file (first_no (file_questions document file)) out

-- The bytes of the longest file.
abbrev pub LONGEST : ℕ
LONGEST = BLOCK * BLOCKS

-- What is printed stands from the start of a buffer with room for the lines of every atom, and so many bytes it has. A shorter buffer is
-- refused by 11, and stays as it was.
pub data LoadWrites (file before : List ℕ) : ListAnswer → List ℕ → Type 0 where
  short : length before < LABELS_ROOM → LoadWrites file before (Err (BufferTooShort LABELS_ROOM)) before
  printed :
      {out after : List ℕ} {n : ℕ} → LABELS_ROOM ≤ length before → LoadPrints file out → Wrote out before 0 after n
      → LoadWrites file before (Ok n) after
