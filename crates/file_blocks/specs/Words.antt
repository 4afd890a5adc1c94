-- Numbers as bytes, low byte first. Assumes nothing.
use Rattle.std.specs.Prelude.{ℕ, zero, suc, ◌+◌, ◌-◌, ◌*◌, ◌/◌, ◌%◌, List, [], ◌∷◌, ◌++◌, length, drop, replicate, slice_index}

-- A byte is below 256, a number of two bytes below 65,536.
abbrev pub BYTE : ℕ
BYTE = 256

abbrev pub WORD : ℕ
WORD = BYTE * BYTE

-- A number of two bytes, low byte first.
abbrev pub word : ℕ → List ℕ
word n = n % BYTE ∷ n / BYTE % BYTE ∷ []

unfoldable pub words : List ℕ → List ℕ
words [] = []
words (n ∷ ns) = word n ++ words ns

-- The number of two bytes that stands at an offset of some bytes, and so many of them from their start on.
abbrev pub word_at : List ℕ → ℕ → ℕ
word_at bs k = slice_index bs k + BYTE * slice_index bs (k + 1)

unfoldable pub words_in : ℕ → List ℕ → List ℕ
words_in zero bs = []
words_in (suc n) bs = word_at bs 0 ∷ words_in n (drop 2 bs)

-- Zeros behind some numbers, up to a length.
abbrev pub padded : ℕ → List ℕ → List ℕ
padded n xs = xs ++ replicate (n - length xs) 0
