-- Private: what the functions that ask of a file's blocks tell each other and `file_calls`. No contract of a call speaks
-- of it. Assumes nothing.
use Rattle.std.specs.Prelude.{ℕ, ◌≡◌, Bool, ◌&&◌, List, eqb}
use Rattle.theory.specs.Lists.{every}
use Rattle.file_blocks.specs.Words.{word_at}
use Rattle.file_blocks.specs.Questions.{blocks, block_count, summed, counted, numbered, filled}
use Rattle.file_questions.specs.declared.Checked.{Checked}

-- Question 18 of one block.
abbrev pub block_numbered : ℕ → ℕ → List ℕ → Bool
block_numbered n index b = eqb (word_at b 0) index && (eqb (word_at b 2) n && counted n index (word_at b 4))

-- The questions of a block, and of those before it.
pub record CheckedNext (n index : ℕ) (before : Checked) (b : List ℕ) (r : Checked) : Type 0 where
  pub summed : r.summed ≡ (before.summed && summed b)
  pub numbered : r.numbered ≡ (before.numbered && block_numbered n index b)
  pub filled : r.filled ≡ (before.filled && filled b)

-- The questions of all blocks.
pub record CheckedOf (bs : List ℕ) (r : Checked) : Type 0 where
  pub summed : r.summed ≡ every summed (blocks bs)
  pub numbered : r.numbered ≡ numbered (block_count bs) 0 (blocks bs)
  pub filled : r.filled ≡ every filled (blocks bs)
