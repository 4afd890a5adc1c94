-- Blocks one behind the other: what is written passes 17 to 19 and is read, and what passes them is written. Assumes
-- nothing.
use Rattle.std.proofs.Common.{◌≡◌, ℕ, zero, suc, ◌+◌, ◌*◌, ◌<◌, ◌≤◌, Bool, true, ◌⊎◌, List, [], ◌∷◌, ◌++◌, length}
use Rattle.std.proofs.Common.{take, drop, sym, refl, ap, ◌∙◌, ap₂, inl, inr, ⊎_elim, append-nil, arith, length-append}
use Rattle.std.proofs.Common.{length-drop, take-append-drop, drop_of_length-le, length-take, take_all, take_at}
use Rattle.std.proofs.Common.{drop_at}
use Rattle.theory.specs.Lists.{every}
use Rattle.theory.proofs.Lists.{and_l, and-of, and_r}
use Rattle.file_blocks.specs.Words.{BYTE, WORD, word_at, words_in}
use Rattle.file_blocks.specs.Places.{Place}
use Rattle.file_blocks.specs.Files.{block_of, blocks_from}
use Rattle.file_blocks.specs.Questions.{blocks_in, counted, numbered, places_from, places_in, places_of, summed, filled}
use Rattle.file_blocks.proofs.Bytes.{All, all_append, all_drop, all_map, all_take, Bytes, Fits}
use Rattle.file_blocks.proofs.Reading.{counted-full, counted-most, counted_of, length-places_from, numbered_next}
use Rattle.file_blocks.proofs.Reading.{numbered_of}
use Rattle.file_blocks.proofs.Written.{block_back, block-bytes, block-filled, block-numbered, block-places}
use Rattle.file_blocks.proofs.Written.{block-summed, length-block}

length-words_in : (n : ℕ) (bs : List ℕ) → length (words_in n bs) ≡ n
unfolding words_in
length-words_in zero bs = refl
length-words_in (suc n) bs = ap suc (length-words_in n (drop 2 bs))

-- Places whose entries are eight, as every place that is written or read has.
abbrev pub Eight : Place → Type 0
Eight p = length p.entries ≡ 8

places-from-eight : (k : ℕ) (bs : List ℕ) → All Eight (places_from k bs)
unfolding places_from
places-from-eight zero bs = tt
places-from-eight (suc k) bs = (length-words_in 8 (drop 6 bs), places-from-eight k (drop 22 bs))

pub places-eight : (bl : List (List ℕ)) → All Eight (places_of bl)
unfolding places_of
places-eight [] = tt
places-eight (b ∷ bl) =
    all_append _ (places_in b) (places_of bl) (places-from-eight (word_at b 4) (drop 6 b)) (places-eight bl)

few : (ps : List Place) → length (take 22 ps) ≤ 22
few ps = omega (arith, length-take 22 ps)

-- Blocks that are written.

block_list : ℕ → ℕ → ℕ → List Place → List (List ℕ)
block_list zero index n ps = []
block_list (suc k) index n ps = block_of index n (take 22 ps) ∷ block_list k (suc index) n (drop 22 ps)

module _ (n : ℕ) where
  pub length-blocks : (k index : ℕ) (ps : List Place) → All Eight ps → length (blocks_from k index n ps) ≡ 512 * k
  unfolding blocks_from
  length-blocks zero index ps e = refl
  length-blocks (suc k) index ps e =
      let b = block_of index n (take 22 ps) in
      let m = length-block index n (take 22 ps) (few ps) (all_take _ 22 ps e) in
      let r = length-blocks k (suc index) (drop 22 ps) (all_drop _ 22 ps e) in
      omega (arith, m, r, length-append b (blocks_from k (suc index) n (drop 22 ps)))

  pub blocks-bytes :
      (k index : ℕ) (ps : List Place) → All (λ p. (p.positives < 128) × (p.negatives < BYTE)) ps
      → Bytes (blocks_from k index n ps)
  unfolding blocks_from
  blocks-bytes zero index ps a = tt
  blocks-bytes (suc k) index ps a =
      all_append _ (block_of index n (take 22 ps)) (blocks_from k (suc index) n (drop 22 ps))
      (block-bytes index n (take 22 ps) (all_take _ 22 ps a))
      (blocks-bytes k (suc index) (drop 22 ps) (all_drop _ 22 ps a))

  blocks-written :
      (k index : ℕ) (ps : List Place) → All Eight ps → blocks_in k (blocks_from k index n ps) ≡ block_list k index n ps
  unfolding blocks_from blocks_in block_list
  blocks-written zero index ps e = refl
  blocks-written (suc k) index ps e =
      let b = block_of index n (take 22 ps) in
      let m = length-block index n (take 22 ps) (few ps) (all_take _ 22 ps e) in
      let r = blocks_from k (suc index) n (drop 22 ps) in
      ap₂ {C = List (List ℕ)} ◌∷◌ (take_at b r 512 m)
      (ap (blocks_in k) (drop_at b r 512 m) ∙ blocks-written k (suc index) (drop 22 ps) (all_drop _ 22 ps e))

  -- What each block passes, all pass: 17, and 19 of filler.
  list-every :
      (f : List ℕ → Bool)
      → ((index : ℕ) (ps : List Place) → length ps ≤ 22 → All Eight ps → f (block_of index n ps) ≡ true)
      → (k index : ℕ) (ps : List Place) → All Eight ps → every f (block_list k index n ps) ≡ true
  unfolding every block_list
  list-every f t zero index ps e = refl
  list-every f t (suc k) index ps e =
      and-of _ _ (t index (take 22 ps) (few ps) (all_take _ 22 ps e))
      (list-every f t k (suc index) (drop 22 ps) (all_drop _ 22 ps e))

  list-places :
      (k index : ℕ) (ps : List Place) → length ps ≤ 22 * k → All Fits ps → places_of (block_list k index n ps) ≡ ps
  unfolding places_of block_list
  list-places zero index [] l a = refl
  list-places zero index (p ∷ ps) l a = absurd (omega arith)
  list-places (suc k) index ps l a =
      ap₂ ◌++◌ (block-places index n (take 22 ps) (few ps) (all_take _ 22 ps a))
      (list-places k (suc index) (drop 22 ps) (omega (arith, length-drop 22 ps)) (all_drop _ 22 ps a))
      ∙ take-append-drop 22 ps

  list-numbered :
      (k index : ℕ) (ps : List Place) → n < WORD → index + k ≡ n → length ps ≤ 22 * k
      → (22 * k < length ps + 22) ⊎ (n ≡ 1) → numbered n index (block_list k index n ps) ≡ true
  unfolding block_list
  list-numbered zero index ps l e m o = unfold numbered in refl
  list-numbered (suc k) index ps l e m o =
      let c = length-take 22 ps in
      let d = length-drop 22 ps in
      numbered_of n index (block_of index n (take 22 ps)) (block_list k (suc index) n (drop 22 ps))
      (block-numbered index n (take 22 ps) (few ps) l (omega arith)
      (counted_of n index (length (take 22 ps))
      (λ (q : suc index < n). ⊎_elim
      (λ (u : 22 * suc k < length ps + 22). omega arith)
      (λ (u : n ≡ 1). absurd (omega arith))
      o)
      (few ps)
      (⊎_elim (λ (u : 22 * suc k < length ps + 22). inl (omega arith)) (λ (u : n ≡ 1). inr u) o)))
      (list-numbered k (suc index) (drop 22 ps) l (omega arith) (omega arith)
      (⊎_elim (λ (u : 22 * suc k < length ps + 22). inl (omega arith)) (λ (u : n ≡ 1). inr u) o))

-- Blocks that pass 17, 18 and the part of 19 that is about filler, with these places.
pub record Passes (n index : ℕ) (bl : List (List ℕ)) (ps : List Place) : Type 0 where
  pub sums : every summed bl ≡ true
  pub numbers : numbered n index bl ≡ true
  pub filler : every filled bl ≡ true
  pub places : places_of bl ≡ ps

pub blocks-pass :
    (n k index : ℕ) (ps : List Place) → All Fits ps → n < WORD → index + k ≡ n → length ps ≤ 22 * k
    → (22 * k < length ps + 22) ⊎ (n ≡ 1) → Passes n index (blocks_in k (blocks_from k index n ps)) ps
blocks-pass n k index ps a l e m o =
    let eight : All Eight ps = all_map (λ p f. f.count) ps a in
    rw (blocks-written n k index ps eight) (record {
      sums = list-every n summed (λ i qs l e. block-summed i n qs l e) k index ps eight;
      numbers = list-numbered n k index ps l e m o;
      filler = list-every n filled (λ i qs l e. block-filled i n qs l e) k index ps eight;
      places = list-places n k index ps m a;
    })

-- Blocks that are read.

-- The first 22 of the places of a block and of those behind it are that block's.
front : (xs ys : List Place) → (length xs ≡ 22) ⊎ ((length xs ≤ 22) × (ys ≡ []))
    → (take 22 (xs ++ ys) ≡ xs) × (drop 22 (xs ++ ys) ≡ ys)
front xs ys (inl e) = (take_at xs ys 22 e, drop_at xs ys 22 e)
front xs ys (inr w) =
    let e : xs ++ ys ≡ xs = ap (λ (zs : List Place). xs ++ zs) w.1 ∙ append-nil xs in
    (ap (take 22) e ∙ take_all 22 xs w.0, ap (drop 22) e ∙ drop_of_length-le xs w.0 ∙ sym w.1)

module _ (n : ℕ) where
  -- A block is full, or nothing follows it.
  full-or-last :
      (k index : ℕ) (b r : List ℕ) → index + suc k ≡ n → counted n index (word_at b 4) ≡ true
      → (length (places_in b) ≡ 22) ⊎ ((length (places_in b) ≤ 22) × (places_of (blocks_in k r) ≡ []))
  full-or-last zero index b r e t =
      inr (
        omega (arith, length-places_from (word_at b 4) (drop 6 b), (counted-most n index _ t).0),
        unfold places_of blocks_in in refl,
      )
  full-or-last (suc k) index b r e t =
      inl (length-places_from (word_at b 4) (drop 6 b) ∙ counted-full n index _ (omega arith) t)

  pub blocks-back :
      (k index : ℕ) (bs : List ℕ) → index + k ≡ n → length bs ≡ 512 * k → Bytes bs
      → every summed (blocks_in k bs) ≡ true → numbered n index (blocks_in k bs) ≡ true
      → every filled (blocks_in k bs) ≡ true → blocks_from k index n (places_of (blocks_in k bs)) ≡ bs
  unfolding blocks_from blocks_in places_of every
  blocks-back zero index [] e l w s t f = refl
  blocks-back zero index (x ∷ bs) e l w s t f = absurd (omega arith)
  blocks-back (suc k) index bs e l w s t f =
      let b = take 512 bs in
      let r = drop 512 bs in
      let h = numbered_next n index b (blocks_in k r) t in
      let c = front (places_in b) (places_of (blocks_in k r)) (full-or-last k index b r e h.0.count) in
      ap₂ (λ (xs ys : List Place). block_of index n xs ++ blocks_from k (suc index) n ys) c.0 c.1
      ∙ ap₂ ◌++◌
      (ap₂ (λ (i m : ℕ). block_of i m (places_in b)) (sym h.0.number) (sym h.0.blocks)
      ∙ block_back b (omega (arith, length-take 512 bs)) (all_take _ 512 bs w)
      (counted-most n index _ h.0.count).0 (and_l (filled b) _ f) (and_l (summed b) _ s))
      (blocks-back k (suc index) r (omega arith) (omega (arith, length-drop 512 bs)) (all_drop _ 512 bs w)
      (and_r (summed b) _ s) h.1 (and_r (filled b) _ f))
      ∙ take-append-drop 512 bs
