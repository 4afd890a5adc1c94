-- Private to the crates behind the calls: numbers written one after another into a buffer. Assumes nothing.
use Rattle.std.specs.Prelude.{ℕ, ◌+◌, ◌≤◌, ◌<◌, ◌≡◌, List, [], ◌∷◌, ◌++◌, length, drop, Ok, Err}
use Rattle.refusals.specs.declared.Refusal.TheVariants.{BufferTooShort}
use Rattle.calls.specs.Answers.{ListAnswer}

-- The list with the numbers of xs in its first places, as far as it has places.
unfoldable pub overwrite : List ℕ → List ℕ → List ℕ
overwrite [] buffer = buffer
overwrite (x ∷ xs) [] = []
overwrite (x ∷ xs) (b ∷ buffer) = x ∷ overwrite xs buffer

-- After some n numbers those of xs were written; r says how many there are then.
pub record Appends (xs : List ℕ) (n r : ℕ) (before after : List ℕ) : Type 0 where
  pub next : r ≡ n + length xs
  pub left :
      (ys buffer : List ℕ) → n ≡ length ys → before ≡ overwrite ys buffer → after ≡ overwrite (ys ++ xs) buffer

-- A list is written from the start of a buffer, and later entries stay; where the buffer is too short nothing is
-- written and the answer carries the length needed.
pub data Written (xs before : List ℕ) : ListAnswer → List ℕ → Type 0 where
  short : length before < length xs → Written xs before (Err (BufferTooShort (length xs))) before
  fits : length xs ≤ length before → Written xs before (Ok (length xs)) (xs ++ drop (length xs) before)
