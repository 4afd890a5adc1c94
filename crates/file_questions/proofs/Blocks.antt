-- The questions of a file's blocks, asked one block after the other. Assumes nothing.
use Prim.Native.Nat.{ℕ, ◌+◌, ◌-◌, ◌*◌, ◌≤◌, ◌<◌}
use native.Mathlib.Omega.{arith}
use native.Mathlib.Numerals.{add-one}
use mathlib.Core.Path.{◌≡◌, refl, sym, ◌∙◌, ap, ap₂}
use mathlib.Core.Bool.{Bool, true, false, ◌&&◌}
use mathlib.Core.List.{List, []}
use lib.ListN.{take, drop}
use Rattle.theory.specs.Lists.{every}
use Rattle.file_blocks.specs.Questions.{blocks_in, block_count, summed, numbered, filled}
use Rattle.file_blocks.proofs.Reading.{blocks-next}
use Rattle.file_questions.specs.declared.Checked.{Checked}
use Rattle.file_questions.specs.Blocks.{block_numbered, CheckedNext, CheckedOf}

-- The blocks from an index on, of n.
abbrev pub rest : List ℕ → ℕ → ℕ → List (List ℕ)
rest bs n i = blocks_in (n - i) (drop (512 * i) bs)

-- The block of an index.
abbrev pub block_at : List ℕ → ℕ → List ℕ
block_at bs i = take 512 (drop (512 * i) bs)

-- What was asked of the blocks before an index, and what is left to ask of the others.
pub record Asked (bs : List ℕ) (n : ℕ) (r : Checked) (i : ℕ) : Type 0 where
  pub low : i ≤ n
  pub summed : every summed (blocks_in n bs) ≡ (r.summed && every summed (rest bs n i))
  pub numbered : numbered n 0 (blocks_in n bs) ≡ (r.numbered && numbered n i (rest bs n i))
  pub filled : every filled (blocks_in n bs) ≡ (r.filled && every filled (rest bs n i))

pub asked-start : (bs : List ℕ) (n : ℕ) → Asked bs n (record { summed = true; numbered = true; filled = true }) 0
asked-start bs n =
    let all : n - 0 ≡ n = omega arith in
    record { low = omega arith; summed = rw all refl; numbered = rw all refl; filled = rw all refl }

and_assoc : (a b c : Bool) → (a && (b && c)) ≡ ((a && b) && c)
and_assoc true b c = refl
and_assoc false b c = refl

module _ (bs : List ℕ) (n i : ℕ) (before r : Checked) where
  pub asked-next : i < n → Asked bs n before i → CheckedNext n i before (block_at bs i) r → Asked bs n r (i + 1)
  unfolding every numbered
  asked-next l A C = record {
    low = omega arith;
    summed =
        A.summed ∙ ap (λ (cs : List (List ℕ)). before.summed && every summed cs) (blocks-next n i bs l)
        ∙ and_assoc before.summed (summed (block_at bs i)) _
        ∙ ap (λ (t : Bool). t && every summed (rest bs n (i + 1))) (sym C.summed);
    numbered =
        A.numbered ∙ ap (λ (cs : List (List ℕ)). before.numbered && numbered n i cs) (blocks-next n i bs l)
        ∙ and_assoc before.numbered (block_numbered n i (block_at bs i)) _
        ∙ ap₂ (λ (t : Bool) (k : ℕ). t && numbered n k (rest bs n (i + 1))) (sym C.numbered) (sym (add-one i));
    filled =
        A.filled ∙ ap (λ (cs : List (List ℕ)). before.filled && every filled cs) (blocks-next n i bs l)
        ∙ and_assoc before.filled (filled (block_at bs i)) _
        ∙ ap (λ (t : Bool). t && every filled (rest bs n (i + 1))) (sym C.filled);
  }

and-true : (a : Bool) → (a && true) ≡ a
and-true true = refl
and-true false = refl

pub asked-all : (bs : List ℕ) (r : Checked) (i : ℕ) → block_count bs ≤ i → Asked bs (block_count bs) r i → CheckedOf bs r
unfolding every numbered blocks_in
asked-all bs r i l A =
    let over : block_count bs - i ≡ 0 = omega arith in
    let none : rest bs (block_count bs) i ≡ [] = ap (λ (k : ℕ). blocks_in k (drop (512 * i) bs)) over in
    record {
      summed = sym (A.summed ∙ ap (λ (cs : List (List ℕ)). r.summed && every summed cs) none ∙ and-true r.summed);
      numbered =
          sym (A.numbered ∙ ap (λ (cs : List (List ℕ)). r.numbered && numbered (block_count bs) i cs) none
          ∙ and-true r.numbered);
      filled = sym (A.filled ∙ ap (λ (cs : List (List ℕ)). r.filled && every filled cs) none ∙ and-true r.filled);
    }
