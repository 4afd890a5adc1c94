-- Blocks and places as they are read from the bytes of a file. Assumes nothing.
use Rattle.std.proofs.Common.{◌≡◌, ℕ, zero, suc, ◌+◌, ◌-◌, ◌*◌, ◌/◌, ◌%◌, ◌<◌, ◌≤◌, Bool, true, false, ◌&&◌, ◌||◌}
use Rattle.std.proofs.Common.{eqb, ltb, leb, ◌⊎◌, List, [], ◌∷◌, ◌++◌, length, get_or, take, drop, sym, refl, ap, ◌∙◌}
use Rattle.std.proofs.Common.{subst, ap₂, inl, inr, ⊎_elim, arith, length-append, length-drop, length-take}
use Rattle.std.proofs.Common.{get_or-drop, get_or-take, drop-drop}
use lib.Seq.{drop-append-le, drop-append-add}
use Rattle.theory.proofs.Lists.{and_l, and-of, and_r, eqb-eq, eqb_of, leb-le, le-leb, le-or-lt, lt-ltb, ltb-lt}
use Rattle.theory.proofs.Lists.{or_cases, or_l, or_r, test}
use Rattle.file_blocks.specs.Words.{BYTE, word_at, words_in}
use Rattle.file_blocks.specs.Places.{Place, place_numbered}
use Rattle.file_blocks.specs.Files.{blocks_for}
use Rattle.file_blocks.specs.Questions.{block_count, blocks, blocks_in, whole, counted, numbered, places_from}
use Rattle.file_blocks.specs.Questions.{places_in}
use Rattle.file_blocks.specs.Questions.{places_of}

-- The blocks, one after the other.
pub blocks-next :
    (n i : ℕ) (bs : List ℕ) → i < n
    → blocks_in (n - i) (drop (512 * i) bs)
    ≡ take 512 (drop (512 * i) bs) ∷ blocks_in (n - (i + 1)) (drop (512 * (i + 1)) bs)
unfolding blocks_in
blocks-next n i bs l =
    let e : n - i ≡ suc (n - (i + 1)) = omega arith in
    let d : 512 * (i + 1) ≡ 512 * i + 512 = omega arith in
    rw (e, d) (ap
    (λ (xs : List ℕ). take 512 (drop (512 * i) bs) ∷ blocks_in (n - (i + 1)) xs) (drop-drop 512 (512 * i) bs))

pub block-length :
    (n i : ℕ) (bs : List ℕ) → length bs ≡ 512 * n → i < n → length (take 512 (drop (512 * i) bs)) ≡ 512
block-length n i bs e l = simp (length-take, length-drop) (omega arith)

-- Bytes that pass 16: so many whole blocks, 1 to 12.
pub record Whole (bs : List ℕ) : Type 0 where
  pub length : length bs ≡ 512 * block_count bs
  pub least : 1 ≤ block_count bs
  pub most : block_count bs ≤ 12

pub whole_parts : (bs : List ℕ) → whole bs ≡ true → Whole bs
unfolding whole
whole_parts bs t =
    let e : length bs % 512 ≡ 0 = eqb-eq _ _ (and_l (eqb (length bs % 512) 0) _ t) in
    let u = and_r (eqb (length bs % 512) 0) _ t in
    record {
      length = omega arith;
      least = leb-le _ _ (and_l (leb 1 (block_count bs)) _ u);
      most = leb-le _ _ (and_r (leb 1 (block_count bs)) _ u);
    }

-- Numbers of two bytes and places are read alike from bytes that agree as far as these reach.

words_in-same :
    (n : ℕ) (xs ys : List ℕ) → ((i : ℕ) → i < 2 * n → get_or xs i 0 ≡ get_or ys i 0) → words_in n xs ≡ words_in n ys
unfolding words_in
words_in-same zero xs ys f = refl
words_in-same (suc n) xs ys f =
    ap₂ {C = List ℕ} ◌∷◌ (ap₂ (λ (a b : ℕ). a + BYTE * b) (f 0 (omega arith)) (f 1 (omega arith)))
    (words_in-same n (drop 2 xs) (drop 2 ys)
    (λ i l. get_or-drop 2 xs i 0 ∙ f (2 + i) (omega arith) ∙ sym (get_or-drop 2 ys i 0)))

pub place_at-same :
    (xs ys : List ℕ) → ((i : ℕ) → i < 22 → get_or xs i 0 ≡ get_or ys i 0) → place_numbered xs ≡ place_numbered ys
place_at-same xs ys f = λ i. record {
  slot = f 0 (omega arith) i + BYTE * f 1 (omega arith) i;
  head = f 2 (omega arith) i + BYTE * f 3 (omega arith) i;
  muted = leb 128 (f 4 (omega arith) i);
  positives = f 4 (omega arith) i % 128;
  negatives = f 5 (omega arith) i;
  entries = words_in-same 8 (drop 6 xs) (drop 6 ys)
      (λ k l. get_or-drop 6 xs k 0 ∙ f (6 + k) (omega arith) ∙ sym (get_or-drop 6 ys k 0)) i;
}

pub word-drop : (n k : ℕ) (bs : List ℕ) → word_at (drop n bs) k ≡ word_at bs (n + k)
word-drop n k bs =
    let e : n + (k + 1) ≡ n + k + 1 = omega arith in
    ap₂ (λ (a b : ℕ). a + BYTE * b) (get_or-drop n bs k 0)
    (get_or-drop n bs (k + 1) 0 ∙ ap (λ (i : ℕ). get_or bs i 0) e)

pub word-take : (n k : ℕ) (bs : List ℕ) → k + 1 < n → word_at (take n bs) k ≡ word_at bs k
word-take n k bs l =
    ap₂ (λ (a b : ℕ). a + BYTE * b) (get_or-take n bs k 0 (omega arith)) (get_or-take n bs (k + 1) 0 l)

-- What 18 says of a block.

pub record Numbered (n index : ℕ) (b : List ℕ) : Type 0 where
  pub number : word_at b 0 ≡ index
  pub blocks : word_at b 2 ≡ n
  pub count : counted n index (word_at b 4) ≡ true

pub numbered_next :
    (n index : ℕ) (b : List ℕ) (bs : List (List ℕ)) → numbered n index (b ∷ bs) ≡ true
    → Numbered n index b × (numbered n (suc index) bs ≡ true)
unfolding numbered
numbered_next n index b bs t =
    let h : Bool = eqb (word_at b 0) index && (eqb (word_at b 2) n && counted n index (word_at b 4)) in
    let u = and_l h (numbered n (suc index) bs) t in
    let w = and_r (eqb (word_at b 0) index) _ u in (
      record {
        number = eqb-eq _ _ (and_l (eqb (word_at b 0) index) _ u);
        blocks = eqb-eq _ _ (and_l (eqb (word_at b 2) n) _ w);
        count = and_r (eqb (word_at b 2) n) _ w;
      },
      and_r h _ t,
    )

pub numbered_of :
    (n index : ℕ) (b : List ℕ) (bs : List (List ℕ)) → Numbered n index b → numbered n (suc index) bs ≡ true
    → numbered n index (b ∷ bs) ≡ true
unfolding numbered
numbered_of n index b bs h t =
    and-of _ _ (and-of _ _ (eqb_of _ _ h.number) (and-of _ _ (eqb_of _ _ h.blocks) h.count)) t

-- Every block but the last holds 22 records.
pub counted-full : (n index c : ℕ) → suc index < n → counted n index c ≡ true → c ≡ 22
unfolding counted
counted-full n index c l t = eqb-eq c 22 (rw (lt-ltb (suc index) n l, counted) at t)

-- None holds more, and none holds none but the only one.
pub counted-most : (n index c : ℕ) → counted n index c ≡ true → (c ≤ 22) × (0 < c ⊎ (n ≡ 1))
unfolding counted
counted-most n index c t = ⊎_elim
    (λ (u : ltb (suc index) n ≡ true). (
    let e : c ≡ 22 = counted-full n index c (ltb-lt _ _ u) t in
    (omega arith, inl (omega arith))))
    (λ (u : ltb (suc index) n ≡ false). (
    let w : (leb c 22 && (ltb 0 c || eqb n 1)) ≡ true = rw (u, counted) at t in (
      leb-le c 22 (and_l (leb c 22) _ w),
      ⊎_elim
          (λ (l : ltb 0 c ≡ true). inl (ltb-lt 0 c l))
          (λ (e : eqb n 1 ≡ true). inr (eqb-eq n 1 e))
          (or_cases (ltb 0 c) (eqb n 1) (and_r (leb c 22) _ w)),
    )))
    (test (ltb (suc index) n))

pub counted_of :
    (n index c : ℕ) → (suc index < n → c ≡ 22) → c ≤ 22 → (0 < c) ⊎ (n ≡ 1) → counted n index c ≡ true
unfolding counted
counted_of n index c f l o = ⊎_elim
    (λ (u : ltb (suc index) n ≡ true). (rw (u, counted) (eqb_of c 22 (f (ltb-lt _ _ u)))))
    (λ (u : ltb (suc index) n ≡ false). (rw (u, counted) (and-of _ _ (le-leb c 22 l)
    (⊎_elim
    (λ (m : 0 < c). or_l (ltb 0 c) _ (lt-ltb 0 c m))
    (λ (e : n ≡ 1). or_r (ltb 0 c) _ (eqb_of n 1 e))
    o))))
    (test (ltb (suc index) n))

-- The places of a block.

pub length-places_from : (k : ℕ) (bs : List ℕ) → length (places_from k bs) ≡ k
unfolding places_from
length-places_from zero bs = refl
length-places_from (suc k) bs = ap suc (length-places_from k (drop 22 bs))

places_from-at :
    (c k : ℕ) (bs : List ℕ) → k < c
    → drop k (places_from c bs) ≡ place_numbered (drop (k * 22) bs) ∷ drop (k + 1) (places_from c bs)
unfolding places_from
places_from-at zero k bs l = absurd (omega arith)
places_from-at (suc c) zero bs l = refl
places_from-at (suc c) (suc k) bs l =
    let d : suc k * 22 ≡ 22 + k * 22 = omega arith in
    let e : suc k + 1 ≡ suc (k + 1) = omega arith in
    rw (d, e, ← drop-drop (k * 22) 22 bs) (places_from-at c k (drop 22 bs) (omega arith))

-- A place of the first block is read from the whole file.
place_here :
    (k c : ℕ) (bs : List ℕ) (ps : List Place) → k < c → c ≤ 22
    → drop k (places_from c (drop 6 (take 512 bs)) ++ ps)
    ≡ place_numbered (drop (k / 22 * 512 + 6 + k % 22 * 22) bs) ∷ drop (k + 1) (places_from c (drop 6 (take 512 bs)) ++ ps)
place_here k c bs ps l m =
    let b = drop 6 (take 512 bs) in
    let n : length (places_from c b) ≡ c = length-places_from c b in
    drop-append-le k (places_from c b) ps (omega arith)
    ∙ ap (λ (qs : List Place). qs ++ ps) (places_from-at c k b l)
    ∙ ap₂ {C = List Place} ◌∷◌
    (place_at-same (drop (k * 22) b) (drop (k / 22 * 512 + 6 + k % 22 * 22) bs) same)
    (sym (drop-append-le (k + 1) (places_from c b) ps (omega arith)))
  where
    same : (i : ℕ) → i < 22
        → get_or (drop (k * 22) (drop 6 (take 512 bs))) i 0 ≡ get_or (drop (k / 22 * 512 + 6 + k % 22 * 22) bs) i 0
    same i j =
        let e : 6 + (k * 22 + i) ≡ k / 22 * 512 + 6 + k % 22 * 22 + i = omega arith in
        get_or-drop (k * 22) (drop 6 (take 512 bs)) i 0 ∙ get_or-drop 6 (take 512 bs) (k * 22 + i) 0
        ∙ get_or-take 512 bs (6 + (k * 22 + i)) 0 (omega arith)
        ∙ ap (λ (z : ℕ). get_or bs z 0) e ∙ sym (get_or-drop (k / 22 * 512 + 6 + k % 22 * 22) bs i 0)

-- A place behind the first block is read from what follows that block.
place-later :
    (k : ℕ) (xs ps : List Place) (bs : List ℕ) → 22 ≤ k → length xs ≡ 22
    → drop (k - 22) ps
    ≡ place_numbered (drop ((k - 22) / 22 * 512 + 6 + (k - 22) % 22 * 22) (drop 512 bs)) ∷ drop (k - 22 + 1) ps
    → drop k (xs ++ ps) ≡ place_numbered (drop (k / 22 * 512 + 6 + k % 22 * 22) bs) ∷ drop (k + 1) (xs ++ ps)
place-later k xs ps bs l n h =
    let a : length xs + (k - 22) ≡ k = omega arith in
    let b : length xs + (k - 22 + 1) ≡ k + 1 = omega arith in
    let c : 512 + ((k - 22) / 22 * 512 + 6 + (k - 22) % 22 * 22) ≡ k / 22 * 512 + 6 + k % 22 * 22 = omega arith in
    behind (k - 22) k a ∙ h
    ∙ ap₂ {C = List Place} ◌∷◌
    (ap place_numbered (drop-drop ((k - 22) / 22 * 512 + 6 + (k - 22) % 22 * 22) 512 bs ∙ ap (λ (z : ℕ). drop z bs) c))
    (sym (behind (k - 22 + 1) (k + 1) b))
  where
    behind : (m z : ℕ) → length xs + m ≡ z → drop z (xs ++ ps) ≡ drop m ps
    behind m z e = ap (λ (y : ℕ). drop y (xs ++ ps)) (sym e) ∙ drop-append-add xs ps m

length-places_in :
    (bs : List ℕ) (ps : List Place)
    → length (places_in (take 512 bs) ++ ps) ≡ word_at (take 512 bs) 4 + length ps
length-places_in bs ps =
    length-append (places_in (take 512 bs)) ps
    ∙ ap (λ (k : ℕ). k + length ps) (length-places_from _ (drop 6 (take 512 bs)))

-- The places of the blocks from an index on, the last block of n being the last.
module _ (n : ℕ) where
  tail-count :
      (m index : ℕ) (bs : List ℕ) → index + suc m ≡ n → numbered n index (blocks_in (suc m) bs) ≡ true
      → (length (places_of (blocks_in (suc m) bs)) ≡ 22 * m + word_at bs (512 * m + 4))
      × (word_at bs (512 * m + 4) ≤ 22) × ((0 < word_at bs (512 * m + 4)) ⊎ (n ≡ 1))
  unfolding places_of blocks_in
  tail-count zero index bs e t =
      let b = (numbered_next n index (take 512 bs) [] t).0 in
      let w = word-take 512 4 bs (omega arith) in
      let l = counted-most n index _ b.count in (
        omega (arith, w, length-places_in bs []),
        omega (arith, w, l.0),
        subst (λ (c : ℕ). (0 < c) ⊎ (n ≡ 1)) w l.1,
      )
  tail-count (suc m) index bs e t =
      let b = numbered_next n index (take 512 bs) (blocks_in (suc m) (drop 512 bs)) t in
      let w = tail-count m (suc index) (drop 512 bs) (omega arith) b.1 in
      let c = counted-full n index _ (omega arith) b.0.count in
      let s : 512 + (512 * m + 4) ≡ 512 * suc m + 4 = omega arith in
      let v = word-drop 512 (512 * m + 4) bs ∙ ap (word_at bs) s in (
        omega (arith, w.0, v, c, length-places_in bs (places_of (blocks_in (suc m) (drop 512 bs)))),
        omega (arith, w.1, v),
        subst (λ (c : ℕ). (0 < c) ⊎ (n ≡ 1)) v w.2,
      )

  tail_at :
      (m index k : ℕ) (bs : List ℕ) → index + suc m ≡ n → numbered n index (blocks_in (suc m) bs) ≡ true
      → k < length (places_of (blocks_in (suc m) bs))
      → drop k (places_of (blocks_in (suc m) bs))
      ≡ place_numbered (drop (k / 22 * 512 + 6 + k % 22 * 22) bs) ∷ drop (k + 1) (places_of (blocks_in (suc m) bs))
  unfolding places_of blocks_in
  tail_at zero index k bs e t l =
      let b = (numbered_next n index (take 512 bs) [] t).0 in
      place_here k (word_at (take 512 bs) 4) bs [] (omega (arith, l, length-places_in bs []))
      (counted-most n index _ b.count).0
  tail_at (suc m) index k bs e t l =
      let b = numbered_next n index (take 512 bs) (blocks_in (suc m) (drop 512 bs)) t in
      let c = counted-full n index _ (omega arith) b.0.count in
      let ps = places_of (blocks_in (suc m) (drop 512 bs)) in
      ⊎_elim
      (λ (i : 22 ≤ k). place-later k (places_in (take 512 bs)) ps bs i (length-places_from _ _ ∙ c)
      (tail_at m (suc index) (k - 22) (drop 512 bs) (omega arith) b.1
      (omega (arith, l, c, length-places_in bs ps))))
      (λ (i : k < 22). place_here k (word_at (take 512 bs) 4) bs ps (omega (arith, c))
      (counted-most n index _ b.0.count).0)
      (le-or-lt 22 k)

-- All n blocks.

all-count :
    (n : ℕ) (bs : List ℕ) → 1 ≤ n → numbered n 0 (blocks_in n bs) ≡ true
    → (length (places_of (blocks_in n bs)) ≡ 22 * (n - 1) + word_at bs (512 * (n - 1) + 4))
    × (word_at bs (512 * (n - 1) + 4) ≤ 22) × ((0 < word_at bs (512 * (n - 1) + 4)) ⊎ (n ≡ 1))
all-count zero bs l t = absurd (omega arith)
all-count (suc m) bs l t =
    let e : suc m - 1 ≡ m = omega arith in
    rw e (tail-count (suc m) m 0 bs (omega arith) t)

all-at :
    (n k : ℕ) (bs : List ℕ) → 1 ≤ n → numbered n 0 (blocks_in n bs) ≡ true → k < length (places_of (blocks_in n bs))
    → drop k (places_of (blocks_in n bs))
    ≡ place_numbered (drop (k / 22 * 512 + 6 + k % 22 * 22) bs) ∷ drop (k + 1) (places_of (blocks_in n bs))
all-at zero k bs l t b = absurd (omega arith)
all-at (suc m) k bs l t b = tail_at (suc m) m 0 k bs (omega arith) t b

-- A file that passes 16 and 18: so many places, and where each stands.
module _ (bs : List ℕ) (w : whole bs ≡ true) (t : numbered (block_count bs) 0 (blocks bs) ≡ true) where
  pub places_count :
      (length (places_of (blocks bs)) ≡ 22 * (block_count bs - 1) + word_at bs (512 * (block_count bs - 1) + 4))
      × (word_at bs (512 * (block_count bs - 1) + 4) ≤ 22)
  places_count = (let c = all-count (block_count bs) bs (whole_parts bs w).least t in (c.0, c.1))

  -- The blocks are as many as the records take.
  pub places-blocks : blocks_for (length (places_of (blocks bs))) ≡ block_count bs
  places-blocks =
      let n = block_count bs in
      let c = all-count n bs (whole_parts bs w).least t in
      ⊎_elim
      (λ (l : 0 < word_at bs (512 * (n - 1) + 4)). omega (arith, c.0, c.1, (whole_parts bs w).least))
      (λ (e : n ≡ 1). omega (arith, c.0, c.1))
      c.2

  pub place_at :
      (k : ℕ) → k < length (places_of (blocks bs))
      → drop k (places_of (blocks bs))
      ≡ place_numbered (drop (k / 22 * 512 + 6 + k % 22 * 22) bs) ∷ drop (k + 1) (places_of (blocks bs))
  place_at k l = all-at (block_count bs) k bs (whole_parts bs w).least t l

  pub place-within : (k : ℕ) → k < length (places_of (blocks bs)) → k / 22 * 512 + 6 + k % 22 * 22 + 22 ≤ length bs
  place-within k l = omega (arith, places_count.0, places_count.1, whole_parts bs w)
