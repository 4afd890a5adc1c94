-- A file with one byte changed is refused: 17. Assumes nothing.
use Rattle.std.proofs.Common.{◌≡◌, ℕ, zero, suc, ◌+◌, ◌*◌, ◌/◌, ◌%◌, ◌<◌, ◌≤◌, true, ◌&&◌, eqb, ltb, leb, ◌⊎◌, List}
use Rattle.std.proofs.Common.{[], ◌∷◌, length, get_or, take, drop, set, sym, refl, ap, ◌∙◌, ap₂, inl, inr, ⊎_elim}
use Rattle.std.proofs.Common.{arith, length-set, length-take, get_or-drop, get_or-set_other, get_or-take}
use Rattle.std.proofs.Common.{get_or-set_same, drop-drop}
use mathlib.Core.Option.{some}
use lib.Seq.{drop-set-add, take-set-le, take-set-lt}
use Rattle.theory.specs.Lists.{every}
use Rattle.theory.specs.Limits.{document, Limits}
use Rattle.theory.specs.Rules.{Pages}
use Rattle.theory.specs.Questions.{first_no}
use Rattle.theory.specs.Sound.{SoundRules}
use Rattle.theory.proofs.Lists.{and_l, and_r, eqb-eq, le-or-lt, unless, ltb-lt}
use Rattle.theory.proofs.Questions.{first_no-here, first_no-none, first_no-yes}
use Rattle.file_blocks.specs.Words.{BYTE, WORD, word_at}
use Rattle.file_blocks.specs.Sums.{grow_a, sum_a, sum_b}
use Rattle.file_blocks.specs.Files.{file_of}
use Rattle.file_blocks.specs.Questions.{block_count, blocks, blocks_in, file_questions, summed, whole}
use Rattle.file_blocks.proofs.Bytes.{all_drop, all_get_d, all_take, Bytes, every-all}
use Rattle.file_blocks.proofs.Reading.{block-length, whole_parts}
use Rattle.file_blocks.proofs.RoundTrips.{file-accepted, file-bytes}

-- A grows by as much as a byte of it does.

grow_a-more : (a k : ℕ) (xs : List ℕ) → grow_a (a + k) xs ≡ grow_a a xs + k
unfolding grow_a
grow_a-more a k [] = refl
grow_a-more a k (x ∷ xs) =
    let e : a + k + x ≡ a + x + k = omega arith in
    ap (λ (z : ℕ). grow_a z xs) e ∙ grow_a-more (a + x) k xs

grow_a-set : (a : ℕ) (xs : List ℕ) (i x : ℕ) → i < length xs → grow_a a (set xs i x) + get_or xs i 0 ≡ grow_a a xs + x
unfolding grow_a
grow_a-set a [] i x l = absurd (omega arith)
grow_a-set a (y ∷ ys) zero x l = omega (arith, grow_a-more a x ys, grow_a-more a y ys)
grow_a-set a (y ∷ ys) (suc i) x l = grow_a-set (a + y) ys i x (omega arith)

-- Sums that differ by less than a byte can and leave the same remainder do not differ.
apart : (g h x y : ℕ) → h + y ≡ g + x → x < BYTE → y < BYTE → g % WORD ≡ h % WORD → x ≡ y
apart g h x y e l m r = ⊎_elim
    (λ (k : g / WORD ≤ h / WORD). ⊎_elim
    (λ (j : h / WORD ≤ g / WORD). omega arith)
    (λ (j : g / WORD < h / WORD). absurd (omega arith))
    (le-or-lt (h / WORD) (g / WORD)))
    (λ (k : h / WORD < g / WORD). absurd (omega arith))
    (le-or-lt (g / WORD) (h / WORD))

-- One of two bytes changed is another number.
pair_same :
    (bs : List ℕ) (i k x : ℕ) → i < length bs → (i ≡ k) ⊎ (i ≡ k + 1) → word_at (set bs i x) k ≡ word_at bs k
    → x ≡ get_or bs i 0
pair_same bs i k x l (inl e) s =
    let a : get_or (set bs i x) k 0 ≡ x = ap (λ (z : ℕ). get_or (set bs i x) z 0) (sym e) ∙ get_or-set_same bs i x 0 l in
    let b : get_or (set bs i x) (k + 1) 0 ≡ get_or bs (k + 1) 0 = get_or-set_other bs i (k + 1) x 0 (omega arith) in
    let c : get_or bs i 0 ≡ get_or bs k 0 = ap (λ (z : ℕ). get_or bs z 0) e in
    omega arith
pair_same bs i k x l (inr e) s =
    let a : get_or (set bs i x) k 0 ≡ get_or bs k 0 = get_or-set_other bs i k x 0 (omega arith) in
    let b : get_or (set bs i x) (k + 1) 0 ≡ x =
    ap (λ (z : ℕ). get_or (set bs i x) z 0) (sym e) ∙ get_or-set_same bs i x 0 l in
    let c : get_or bs i 0 ≡ get_or bs (k + 1) 0 = ap (λ (z : ℕ). get_or bs z 0) e in
    omega arith

-- What 17 says of a block.
sums-of : (b : List ℕ) → summed b ≡ true → (word_at b 508 ≡ sum_a (take 508 b)) × (word_at b 510 ≡ sum_b (take 508 b))
unfolding summed
sums-of b t =
    let c = eqb (word_at b 508) (sum_a (take 508 b)) in
    (eqb-eq _ _ (and_l c _ t), eqb-eq _ _ (and_r c _ t))

one_of_two : (k i : ℕ) → k ≤ i → i < k + 2 → (i ≡ k) ⊎ (i ≡ k + 1)
one_of_two k i l m = ⊎_elim
    (λ (j : k + 1 ≤ i). inr (omega arith))
    (λ (j : i < k + 1). inl (omega arith))
    (le-or-lt (k + 1) i)

-- A block whose sums are right before and after a byte is set: the byte is as it was.
module _ (b : List ℕ) (i x : ℕ) (n : length b ≡ 512) (l : i < 512) (t : summed b ≡ true) where
  -- Among the sums: the sums stored differ, those of the body do not.
  sums_same : 508 ≤ i → summed (set b i x) ≡ true → x ≡ get_or b i 0
  sums_same k u =
      let s = sums-of b t in
      let v = sums-of (set b i x) u in
      let e = take-set-le 508 b i x k in
      ⊎_elim
      (λ (j : 510 ≤ i). pair_same b i 510 x (omega arith) (one_of_two 510 i j (omega arith))
      (v.1 ∙ ap sum_b e ∙ sym s.1))
      (λ (j : i < 510). pair_same b i 508 x (omega arith) (one_of_two 508 i k (omega arith))
      (v.0 ∙ ap sum_a e ∙ sym s.0))
      (le-or-lt 510 i)

  -- In the body: the sum of the body differs, that stored does not.
  body_same : i < 508 → x < BYTE → Bytes b → summed (set b i x) ≡ true → x ≡ get_or b i 0
  body_same k m w u =
      let s = sums-of b t in
      let v = sums-of (set b i x) u in
      let body = take 508 b in
      let g = grow_a-set 1 body i x (omega (arith, length-take 508 b)) in
      let a = get_or-set_other b i 508 x 0 (omega arith) in
      let c = get_or-set_other b i 509 x 0 (omega arith) in
      apart (grow_a 1 body) (grow_a 1 (set body i x)) x (get_or b i 0)
      (ap (λ (z : ℕ). grow_a 1 (set body i x) + z) (sym (get_or-take 508 b i 0 k)) ∙ g) m
      (all_get_d (λ z. z < BYTE) b i 0 (omega arith) w)
      (sym s.0 ∙ sym (ap₂ (λ (p q : ℕ). p + BYTE * q) a c) ∙ v.0 ∙ ap sum_a (take-set-lt 508 b i x k))

  block_same : x < BYTE → Bytes b → summed (set b i x) ≡ true → x ≡ get_or b i 0
  block_same m w u = ⊎_elim
      (λ (k : 508 ≤ i). sums_same k u)
      (λ (k : i < 508). body_same k m w u)
      (le-or-lt 508 i)

-- The sums of each block.
every-block :
    (n j : ℕ) (bs : List ℕ) → j < n → every summed (blocks_in n bs) ≡ true
    → summed (take 512 (drop (512 * j) bs)) ≡ true
unfolding every blocks_in
every-block zero j bs l t = absurd (omega arith)
every-block (suc n) zero bs l t = and_l (summed (take 512 bs)) _ t
every-block (suc n) (suc j) bs l t =
    let e : 512 + 512 * j ≡ 512 * suc j = omega arith in
    ap (λ (xs : List ℕ). summed (take 512 xs)) (ap (λ (z : ℕ). drop z bs) (sym e) ∙ sym (drop-drop (512 * j) 512 bs))
    ∙ every-block n j (drop 512 bs) (omega arith) (and_r (summed (take 512 bs)) _ t)

-- Any bytes that pass 16 and 17, with one of them changed.
module _ (bs : List ℕ) (h : whole bs ≡ true) (t : every summed (blocks bs) ≡ true) (w : Bytes bs) where
  changed-whole : (i x : ℕ) → whole (set bs i x) ≡ true
  unfolding whole
  changed-whole i x =
      ap (λ (n : ℕ). eqb (n % 512) 0 && (leb 1 (n / 512) && leb (n / 512) 12)) (length-set bs i x) ∙ h

  changed-same :
      (i x : ℕ) → i < length bs → x < BYTE → every summed (blocks (set bs i x)) ≡ true → x ≡ get_or bs i 0
  changed-same i x l m u =
      let j = i / 512 in
      let o = i % 512 in
      let b = take 512 (drop (512 * j) bs) in
      let n = (whole_parts bs h).length in
      let k = length-set bs i x in
      let e : 512 * j + o ≡ i = omega arith in
      let s : take 512 (drop (512 * j) (set bs i x)) ≡ set b o x =
      ap (λ (z : ℕ). take 512 (drop (512 * j) (set bs z x))) (sym e)
      ∙ ap (take 512) (drop-set-add (512 * j) bs o x)
      ∙ take-set-lt 512 (drop (512 * j) bs) o x (omega arith) in
      let g : get_or b o 0 ≡ get_or bs i 0 =
      get_or-take 512 (drop (512 * j) bs) o 0 (omega arith) ∙ get_or-drop (512 * j) bs o 0
      ∙ ap (λ (z : ℕ). get_or bs z 0) e in
      block_same b o x (block-length (block_count bs) j bs n (omega arith)) (omega arith)
      (every-block (block_count bs) j bs (omega arith) t) m
      (all_take _ 512 (drop (512 * j) bs) (all_drop _ (512 * j) bs w))
      (sym (ap summed s) ∙ every-block (block_count (set bs i x)) j (set bs i x) (omega arith) u)
      ∙ g

  pub changed-refused :
      (limits : Limits) (i x : ℕ) → i < length bs → x < BYTE → (x ≡ get_or bs i 0 → ⊥)
      → first_no (file_questions limits (set bs i x)) ≡ some 17
  changed-refused limits i x l m d =
      first_no-yes _ _ (changed-whole i x)
      ∙ first_no-here _ _ (unless (every summed (blocks (set bs i x))) (λ u. d (changed-same i x l m u)))

-- A saved file with any one byte changed is refused: 17.
pub one-byte-17 :
    (B : Pages) → SoundRules document B → (i x : ℕ) → i < length (file_of B) → x < BYTE
    → (x ≡ get_or (file_of B) i 0 → ⊥) → first_no (file_questions document (set (file_of B) i x)) ≡ some 17
one-byte-17 B sound =
    let one = first_no-none _ _ (file-accepted B sound) in
    let two = first_no-none _ _ one.1 in
    changed-refused (file_of B) one.0 two.0
    (every-all _ (λ b. ltb b BYTE) (λ b t. ltb-lt b BYTE t) (file_of B) (file-bytes B sound.passes)) document
