-- What a read leaves in a buffer. Assumes nothing.
use Rattle.std.specs.Prelude.{ℕ, ◌+◌, ◌≤◌, ◌≡◌, List, ◌++◌, length, take}
use Rattle.program_io.specs.Told.{Given}

-- One read into a part of a buffer: what it got stands at the start of the part, and is counted with what was read
-- before.
pub record ReadsPart (part : List ℕ) (read₀ got₀ read got : ℕ) : Type 0 where
  pub inside : got ≤ length part
  pub count : read ≡ read₀ + got
  pub gives : (bytes : List ℕ) → Given bytes read₀ got₀ → Given (bytes ++ take got part) read got

-- One read behind the bytes that were read before. These stay, and standard input gave those that stand behind them.
pub record ReadsOn (before : List ℕ) (read₀ got₀ : ℕ) (after : List ℕ) (read got : ℕ) : Type 0 where
  pub stay : take read₀ after ≡ take read₀ before
  pub inside : read ≤ length after
  pub count : read ≡ read₀ + got
  pub gives : Given (take read₀ before) read₀ got₀ → Given (take read after) read got
