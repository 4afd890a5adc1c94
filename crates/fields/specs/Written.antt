-- Bytes written at a place of a lent buffer. Assumes nothing.
use Rattle.std.specs.Prelude.{ℕ, ◌+◌, ◌≤◌, ◌<◌, ◌≡◌, List, ◌++◌, length, take, drop}

-- The buffer with the bytes at that place, every other byte as it was.
unfoldable pub put : List ℕ → ℕ → List ℕ → List ℕ
put buffer at bytes = take at buffer ++ (bytes ++ drop (at + length bytes) buffer)

-- The bytes had room at a place of the buffer and stand there, every other byte is as it was, and the next place is
-- behind them.
pub record Wrote (bytes before : List ℕ) (at : ℕ) (after : List ℕ) (next : ℕ) : Type 0 where
  pub room : at + length bytes ≤ length before
  pub buffer : after ≡ put before at bytes
  pub place : next ≡ at + length bytes

-- The bytes are written where so much room is left from the place on; else nothing is, and the place stays.
pub record WroteIn (room : ℕ) (bytes before : List ℕ) (at : ℕ) (after : List ℕ) (next : ℕ) : Type 0 where
  pub fits : at + room ≤ length before → Wrote bytes before at after next
  pub full : length before < at + room → (after ≡ before) × (next ≡ at)
