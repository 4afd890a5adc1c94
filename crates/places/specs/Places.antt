-- A place in a sheet: an offset in a line's bytes, and the line's number (specification 9.11: the reader keeps one
-- place, moved past blanks, and counts lines by it). Assumes nothing.
use Prim.Native.Char.{code}
use Rattle.std.specs.Prelude.{ℕ, zero, suc, ◌+◌, ◌-◌, ◌^◌, min, ◌≤◌, ◌≡◌, Bool, cond, List, [], ◌∷◌, length, drop, eqb}
use Rattle.places.specs.declared.Place.{Place}

-- The only blank is the space, byte 32. A tab is a byte of a token.
abbrev pub is_space : ℕ → Bool
is_space b = eqb b (code " ")

-- How many bytes at the start of bs pass the test.
unfoldable pub leading : (ℕ → Bool) → List ℕ → ℕ
leading f [] = zero
leading f (b ∷ bs) = cond (f b) (suc (leading f bs)) zero

-- Where the blanks that begin at an offset end. Past the end of the line it is that offset.
abbrev pub blanks_end : List ℕ → ℕ → ℕ
blanks_end line start = start + leading is_space (drop start line)

-- The place past the blanks that begin at a place.
abbrev pub past_blanks : List ℕ → Place → Place
past_blanks line p = record { offset = blanks_end line p.offset; line = p.line }

-- A place further on in the same line: not before the one that it came from and, where that one lies in the line's
-- bytes, not past their end.
pub record Onward (bytes : List ℕ) (from to : Place) : Type 0 where
  pub same_line : to.line ≡ from.line
  pub not_before : from.offset ≤ to.offset
  pub not_past : from.offset ≤ length bytes → to.offset ≤ length bytes

-- The start of a sheet. Lines count from 1.
abbrev pub start : Place
start = record { offset = 0; line = 1 }

-- The number of the next line. A place has 32 bits for it, so the count stops at the greatest number of 32 bits. The
-- meaning of a sheet counts without an end (crate sheet_meaning); the law `few-lines` there says why no sheet gets this
-- far.
abbrev pub line_after : ℕ → ℕ
line_after n = min (n + 1) (2 ^ 32 - 1)

-- The start of the next line.
abbrev pub next_line : Place → Place
next_line p = record { offset = 0; line = line_after p.line }
