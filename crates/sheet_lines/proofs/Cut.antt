-- A line may be cut behind more than 120 bytes: it reads as the whole line. Assumes nothing.
use Prim.Native.Nat.{ℕ, ◌≤◌, ◌<◌}
use native.Mathlib.Omega.{arith}
use native.Mathlib.Decide.{dec_le}
use mathlib.Core.Path.{◌≡◌}
use mathlib.Core.List.{List}
use lib.ListN.{length, take}
use lib.Seq.{take_all, length-take-le}
use borrow.Author.Tests.{lt-ltb, lt-leb}
use Rattle.sheet_lines.specs.Readings.{LINE, reading, blank}

-- A line of more than 120 bytes is too long, whatever it holds.
reading-long : (xs ys : List ℕ) → LINE < length xs → LINE < length ys → reading xs ≡ reading ys
unfolding reading blank
reading-long xs ys l m =
    rw (lt-leb (length xs) LINE l, lt-leb (length ys) LINE m, lt-ltb LINE (length xs) l, lt-ltb LINE (length ys) m)

pub reading-cut : (k : ℕ) (line : List ℕ) → LINE < k → reading (take k line) ≡ reading line
reading-cut k line more = go (dec_le (length line) k)
  where
    go : Dec (length line ≤ k) → reading (take k line) ≡ reading line
    go (yes l) = rw (take_all k line l)
    go (no l) = reading-long (take k line) line (omega (arith, length-take-le k line (omega arith))) (omega arith)
