-- What standard input gave and what standard output was handed. No contract of std names these bytes, so both are shut:
-- outside this file nothing is known of them but these laws. The laws that make more of them are cited by the two
-- functions that make std's calls, `read_part` and `write_out`, and by no other. Assumes nothing.
use Rattle.std.specs.Prelude.{ℕ, ◌+◌, ◌-◌, ◌≤◌, ◌<◌, ◌≡◌, refl, Bool, true, false, List, [], ◌++◌, length, take}
use Rattle.std.proofs.Common.{arith, length-append}

-- Since the cells were made, the reads gave these bytes, in this order, so many in all; the last read gave so many of
-- them. Before the first read this number is any but 0.
pub record Given (bytes : List ℕ) (read got : ℕ) : Type 0 where
  size : length bytes ≡ read

pub given_none : {got : ℕ} → 0 < got → Given [] 0 got
given_none some = record { size = refl }

pub given_more :
    {bytes : List ℕ} (more : List ℕ) {read got : ℕ} → Given bytes read got → 0 < got
    → Given (bytes ++ more) (read + length more) (length more)
given_more {bytes} more g some = record { size = omega (arith, g.size, length-append bytes more) }

-- Since the cells were made, these bytes were written, in this order, so many in all; then a write of so many more
-- failed, of which the first may be there: they are called lost.
pub record Shown (bytes : List ℕ) (shown lost : ℕ) : Type 0 where
  size : length bytes ≡ shown

pub shown_none : Shown [] 0 0
shown_none = record { size = refl }

pub shown_more :
    {bytes : List ℕ} (more : List ℕ) {shown : ℕ} → Shown bytes shown 0 → Shown (bytes ++ more) (shown + length more) 0
shown_more {bytes} more s = record { size = omega (arith, s.size, length-append bytes more) }

pub shown_failed : {bytes : List ℕ} {shown : ℕ} (lost : ℕ) → Shown bytes shown 0 → Shown bytes shown lost
shown_failed lost s = record { size = s.size }

-- What is shown of bytes: all, or none.
abbrev pub shown_of : Bool → List ℕ → List ℕ
shown_of true bytes = bytes
shown_of false bytes = []

-- These bytes were handed to standard output behind those before, and a write of so many of them, the last ones, failed:
-- none, or all.
pub record Writes (bytes : List ℕ) (shown₀ shown lost : ℕ) : Type 0 where
  pub count : shown + lost ≡ shown₀ + length bytes
  pub few : lost ≤ length bytes
  pub shows :
      (before : List ℕ) → Shown before shown₀ 0 → Shown (before ++ take (length bytes - lost) bytes) shown lost
