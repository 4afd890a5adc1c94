-- What the tests of a file's length, of a block's sums and of its numbers tell. Assumes nothing.
use Prim.Native.Nat.{ℕ, suc, ◌+◌, ◌*◌, ◌%◌, ◌/◌, ◌≤◌, ◌<◌}
use native.Mathlib.Omega.{arith}
use mathlib.Core.Path.{◌≡◌, sym, ◌∙◌, ap}
use mathlib.Core.Bool.{Bool, true, false, cond, ◌&&◌, ◌||◌}
use mathlib.Core.List.{List}
use lib.Dec.{eqb, leb, ltb}
use lib.ListN.{length, take, length-take}
use Rattle.theory.proofs.Lists.{and_r, and-of, unless, same_test, eqb-eq, eqb_of, eqb-not, leb-le, le-leb, lt-ltb, ltb-lt}
use Rattle.questions.proofs.Refusals.{both-no, both-no-2}
use Rattle.file_blocks.specs.Words.{word_at}
use Rattle.file_blocks.specs.Sums.{sum_a, sum_b}
use Rattle.file_blocks.specs.Files.{BLOCK, BLOCKS, BODY}
use Rattle.file_blocks.specs.Questions.{whole, summed, counted}
use Rattle.file_blocks.proofs.Reading.{whole_parts}
use Rattle.file_questions.specs.Blocks.{block_numbered}

-- Question 16.
module _ (bs : List ℕ) where
  abbrev n : ℕ
  n = length bs

  pub whole-uneven : (n % 512 ≡ 0 → ⊥) → false ≡ whole bs
  unfolding whole
  whole-uneven u = sym (both-no _ _ (eqb-not _ _ u))

  pub whole-short : n % 512 ≡ 0 → n < 512 → false ≡ whole bs
  unfolding whole
  whole-short e l =
      sym (both-no-2 _ _ (eqb_of _ _ e)
      (both-no _ _ (unless (leb 1 (n / 512)) (λ t. (let u = leb-le 1 (n / 512) t in omega arith)))))

  pub whole-last : n % 512 ≡ 0 → 512 ≤ n → leb n (BLOCK * BLOCKS) ≡ whole bs
  unfolding whole
  whole-last e l = same_test (leb n (BLOCK * BLOCKS)) (whole bs)
      (λ t. (
      let u = leb-le n (BLOCK * BLOCKS) t in
      and-of _ _ (eqb_of _ _ e) (and-of _ _ (le-leb 1 (n / 512) (omega arith)) (le-leb (n / 512) 12 (omega arith)))))
      (λ t. (let w = whole_parts bs t in le-leb n (BLOCK * BLOCKS) (omega (arith, w.length, w.most))))

-- Question 17 of a block.

pub length-body : (b : List ℕ) → length b ≡ 512 → length (take BODY b) ≡ 508
length-body b e = length-take BODY b ∙ omega arith

module _ (b : List ℕ) (x a y z : ℕ) (at_a : x ≡ word_at b BODY) (sum-a : a ≡ sum_a (take BODY b)) where
  pub summed-not-a : (x ≡ a → ⊥) → false ≡ summed b
  unfolding summed
  summed-not-a u = sym (both-no _ _ (eqb-not _ _ (λ e. u (at_a ∙ e ∙ sym sum-a))))

  pub summed-b : x ≡ a → y ≡ word_at b (BODY + 2) → z ≡ sum_b (take BODY b) → eqb y z ≡ summed b
  unfolding summed
  summed-b e at_b sum-b = same_test (eqb y z) (summed b)
      (λ t. and-of _ _ (eqb_of _ _ (sym at_a ∙ e ∙ sum-a)) (eqb_of _ _ (sym at_b ∙ eqb-eq y z t ∙ sum-b)))
      (λ t. eqb_of y z (at_b
      ∙ eqb-eq _ _ (and_r (eqb (word_at b BODY) (sum_a (take BODY b))) _ t) ∙ sym sum-b))

-- Question 18 of a number of records.
module _ (n index count : ℕ) where
  pub counted-inner : index + 1 < n → eqb count 22 ≡ counted n index count
  unfolding counted
  counted-inner l =
      sym (ap (λ (t : Bool). cond t (eqb count 22) (leb count 22 && (ltb 0 count || eqb n 1)))
      (lt-ltb (suc index) n (omega arith)))

  counted-last : n ≤ index + 1 → counted n index count ≡ (leb count 22 && (ltb 0 count || eqb n 1))
  unfolding counted
  counted-last l =
      ap (λ (t : Bool). cond t (eqb count 22) (leb count 22 && (ltb 0 count || eqb n 1)))
      (unless (ltb (suc index) n) (λ t. (let u = ltb-lt (suc index) n t in omega arith)))

  pub counted-over : n ≤ index + 1 → 22 < count → false ≡ counted n index count
  counted-over l u =
      sym (counted-last l ∙ both-no _ _ (unless (leb count 22) (λ t. (let v = leb-le count 22 t in omega arith))))

  few-counted : count ≤ 22 → (leb count 22 && (ltb 0 count || eqb n 1)) ≡ (ltb 0 count || eqb n 1)
  few-counted l = ap (λ (t : Bool). t && (ltb 0 count || eqb n 1)) (le-leb count 22 l)

  pub counted-some : n ≤ index + 1 → count ≤ 22 → 0 < count → true ≡ counted n index count
  counted-some l u v = sym (counted-last l ∙ few-counted u ∙ ap (λ (t : Bool). t || eqb n 1) (lt-ltb 0 count v))

  pub counted_none : n ≤ index + 1 → count ≡ 0 → eqb n 1 ≡ counted n index count
  counted_none l e = sym (counted-last l ∙ few-counted (omega arith) ∙ ap (λ (t : Bool). t || eqb n 1)
      (unless (ltb 0 count) (λ t. (let v = ltb-lt 0 count t in omega arith))))

-- Question 18 of a block.
module _ (n index : ℕ) (b : List ℕ) (i : ℕ) (at-index : i ≡ word_at b 0) where
  pub numbered-index : (i ≡ index → ⊥) → false ≡ block_numbered n index b
  numbered-index u = sym (both-no _ _ (eqb-not _ _ (λ e. u (at-index ∙ e))))

  module _ (e : i ≡ index) (m : ℕ) (at_count : m ≡ word_at b 2) where
    pub numbered-blocks : (m ≡ n → ⊥) → false ≡ block_numbered n index b
    numbered-blocks u =
        sym (both-no-2 _ _ (eqb_of _ _ (sym at-index ∙ e)) (both-no _ _ (eqb-not _ _ (λ z. u (at_count ∙ z)))))

    pub numbered-count :
        m ≡ n → (k : ℕ) → k ≡ word_at b 4 → (r : Bool) → r ≡ counted n index k → r ≡ block_numbered n index b
    numbered-count f k at_records r t =
        t ∙ ap (counted n index) at_records
        ∙ sym (ap (λ (s : Bool). s && counted n index (word_at b 4)) (eqb_of _ _ (sym at_count ∙ f)))
        ∙ sym (ap (λ (s : Bool). s && (eqb (word_at b 2) n && counted n index (word_at b 4)))
        (eqb_of _ _ (sym at-index ∙ e)))
