-- What can be said of the program that prints the labels of a file. Assumes nothing.
use Rattle.std.specs.Prelude.{ℕ, ◌+◌, ◌≤◌, ◌<◌, ◌≡◌, List, length, take}
use Rattle.file_lines.specs.Loads.{LONGEST, LoadPrints}
use Rattle.program_io.specs.Told.{Given, Writes}
use Rattle.program_files.specs.declared.Listed.{Listed}

-- Standard input gave the first so many bytes of a buffer that has room for one byte more than a file can have; they
-- are fewer only where the last read gave nothing. What is printed of these bytes was handed to standard output, and
-- nothing else was.
pub record LoadsInput (file out : List ℕ) (r : Listed) : Type 0 where
  pub room : length file ≡ LONGEST + 1
  pub few : r.read ≤ length file
  pub given : Given (take r.read file) r.read r.got
  pub ended : r.read < length file → r.got ≡ 0
  pub lines : LoadPrints (take r.read file) (take r.printed out)
  pub writes : Writes (take r.printed out) 0 r.shown r.lost

-- The whole of the loading program: with some buffers.
abbrev pub LoadsFile : Listed → Type 0
LoadsFile r = (file out : List ℕ) × LoadsInput file out r
