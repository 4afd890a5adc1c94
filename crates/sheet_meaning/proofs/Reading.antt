-- Laws of `Reads`: bytes behind bytes, and how many lines there can be. Assumes nothing.
use Prim.Native.Nat.{ℕ, ◌+◌, ◌^◌, ◌≤◌, ◌<◌}
use native.Mathlib.Omega.{arith}
use mathlib.Core.List.{List, ◌++◌, append_assoc}
use lib.ListN.{length, take, length-take}
use Rattle.sheet_meaning.specs.Sheets.{State, start, Reads, stop, byte, newline, MOST, cut}

-- Bytes behind bytes.
pub reads_then :
    {s u v : State} {xs ys out more : List ℕ} → Reads s xs out u → Reads u ys more v
    → Reads s (xs ++ ys) (out ++ more) v
reads_then stop r = r
reads_then (byte b f) r = byte b (reads_then f r)
reads_then (newline p f) r = rw append_assoc (newline p (reads_then f r))

-- Each byte ends one line at most.
pub lines-at-most :
    {s v : State} {bs out : List ℕ} → Reads s bs out v → v.number ≤ s.number + length bs
lines-at-most stop = omega arith
lines-at-most (byte b r) = omega (arith, lines-at-most r)
lines-at-most (newline p r) = omega (arith, lines-at-most r)

-- So in a sheet of at most so many bytes every line's number, also that of the last line, has 32 bits.
pub few-lines :
    {v : State} {bs out : List ℕ} → Reads start bs out v → length bs ≤ MOST
    → (v.number ≤ MOST + 1) × (v.number < 2 ^ 32)
few-lines r l =
    let most = lines-at-most r in
    (omega arith, omega arith)

-- What a program reads of its input is such a sheet.

taken-short : (n : ℕ) (bs : List ℕ) → length (take n bs) ≤ n
taken-short n bs = omega (arith, length-take n bs)

pub cut_short : (input : List ℕ) → length (cut input) ≤ MOST
cut_short input = taken-short MOST input
