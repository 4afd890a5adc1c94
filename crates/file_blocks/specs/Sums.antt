-- The two sums of a block, its checksum (specification 7.5). Assumes nothing.
use Rattle.std.specs.Prelude.{ℕ, ◌+◌, ◌%◌, List, [], ◌∷◌}
use Rattle.file_blocks.specs.Words.{WORD}

-- The sums as whole numbers: for each byte A grows by the byte, and then B by A.
unfoldable pub grow_a : ℕ → List ℕ → ℕ
grow_a a [] = a
grow_a a (x ∷ xs) = grow_a (a + x) xs

unfoldable pub grow_b : ℕ → ℕ → List ℕ → ℕ
grow_b a b [] = b
grow_b a b (x ∷ xs) = grow_b (a + x) (b + (a + x)) xs

-- A starts at 1, B at 0; both start over past 65,535.
abbrev pub sum_a : List ℕ → ℕ
sum_a bs = grow_a 1 bs % WORD

abbrev pub sum_b : List ℕ → ℕ
sum_b bs = grow_b 1 0 bs % WORD
