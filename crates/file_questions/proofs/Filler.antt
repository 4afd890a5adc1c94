-- The bytes behind a block's records. Assumes nothing.
use Prim.Native.Nat.{ℕ, ◌+◌, ◌*◌}
use mathlib.Core.Path.{◌≡◌, refl, ◌∙◌, ap}
use mathlib.Core.Bool.{Bool, ◌&&◌}
use mathlib.Core.List.{List, [], ◌∷◌}
use lib.ListN.{take, drop}
use Rattle.std.specs.Prelude.{nat_eq}
use Rattle.std.specs.List.{list_all}
use Rattle.theory.specs.Lists.{every}
use Rattle.file_blocks.specs.Words.{word_at}
use Rattle.file_blocks.specs.Questions.{filled}

-- The library's test of all elements.
all-every : (f : ℕ → Bool) (xs : List ℕ) → list_all f xs ≡ every f xs
unfolding every
all-every f [] = refl
all-every f (x ∷ xs) = ap (λ (t : Bool). f x && t) (all-every f xs)

-- A block is filled if all bytes behind its records, before the sums, are zero.
pub filler-told :
    (b : List ℕ) (count : ℕ) → count ≡ word_at b 4 → list_all (nat_eq 0) (drop (6 + 22 * count) (take 508 b)) ≡ filled b
unfolding filled
filler-told b count e =
    all-every (nat_eq 0) (drop (6 + 22 * count) (take 508 b))
    ∙ ap (λ (n : ℕ). every (nat_eq 0) (drop (6 + 22 * n) (take 508 b))) e
