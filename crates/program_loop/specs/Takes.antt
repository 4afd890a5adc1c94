-- What a program makes of its input, piece by piece and in all. Assumes nothing.
use Rattle.std.specs.Prelude.{ℕ, ◌*◌, ◌≤◌, ◌<◌, ◌≡◌, Bool, List, length, take, drop}
use Rattle.sheet_feed.specs.declared.Sheet.{Sheet}
use Rattle.sheet_feed.specs.Sheets.{Pieces}
use Rattle.program_io.specs.Told.{Given, shown_of, Writes}
use Rattle.program_io.specs.Reads.{ReadsOn}
use Rattle.program_loop.specs.declared.Task.{Task}
use Rattle.program_loop.specs.declared.Task.TheVariants.{Answer, Keep}

-- The bytes of the buffer that replies are written into.
abbrev pub SPACE : ℕ
SPACE = 65536

-- The first so many of these bytes were fed to this sheet, in order, and the sheet handed back is the one after them.
-- These are all, unless bytes are lost. What they print was handed to standard output, or nothing was.
pub record Answers (c : Sheet) (showing : Bool) (bytes : List ℕ) (shown₀ shown lost : ℕ) (d : Sheet) : Type 0 where
  pub fed : ℕ
  pub printed : List ℕ
  pub few : fed ≤ length bytes
  pub pieces : Pieces c (take fed bytes) printed d
  pub whole : lost ≡ 0 → fed ≡ length bytes
  pub writes : Writes (shown_of showing printed) shown₀ shown lost
  pub most : length printed ≤ SPACE * fed

-- What the task makes of these bytes. A task that keeps them leaves them where they stand.
abbrev pub Takes : Task → Sheet → List ℕ → ℕ → ℕ → ℕ → Sheet → Type 0
Takes (Answer showing) c bytes shown₀ shown lost d = Answers c showing bytes shown₀ shown lost d
Takes Keep c bytes shown₀ shown lost d = (d ≡ c) × (shown ≡ shown₀) × (lost ≡ 0)

-- One read, and what the task made of the bytes that it got.
pub record TakesRead (task : Task) (c : Sheet) (before : List ℕ) (read₀ got₀ shown₀ : ℕ) (after : List ℕ)
    (read got shown lost : ℕ) (d : Sheet) : Type 0 where
  pub reads : ReadsOn before read₀ got₀ after read got
  pub takes : Takes task c (take got (drop read₀ after)) shown₀ shown lost d

-- Standard input gave the first so many bytes of the buffer, and this the task made of them. Unless bytes are lost,
-- they are fewer than the buffer has only where the last read gave nothing.
pub record TakesInput (task : Task) (c : Sheet) (buffer : List ℕ) (read got shown lost : ℕ) (d : Sheet) : Type 0 where
  pub few : read ≤ length buffer
  pub given : Given (take read buffer) read got
  pub takes : Takes task c (take read buffer) 0 shown lost d
  pub ended : lost ≡ 0 → read < length buffer → got ≡ 0
