-- One block: what is written passes 17 to 19 and is read, and what passes them is written. Assumes nothing.
use Rattle.std.proofs.Common.{◌≡◌, ℕ, ◌+◌, ◌-◌, ◌*◌, ◌<◌, ◌≤◌, true, eqb, List, [], ◌∷◌, ◌++◌, length, get_or, take}
use Rattle.std.proofs.Common.{drop, replicate, sym, refl, ap, ◌∙◌, ap₂, append_assoc, arith, length-append}
use Rattle.std.proofs.Common.{length-drop, take-append-drop, length-take, take_all, take-take, take_at}
use Rattle.std.proofs.Common.{get_or-append-add, take-add, drop_at}
use lib.ListN.{length-replicate}
use Rattle.theory.specs.Lists.{every}
use Rattle.theory.proofs.Lists.{and_l, and-of, and_r, eqb-eq, eqb_of}
use Rattle.file_blocks.specs.Words.{BYTE, WORD, word, words, word_at, words_in, padded}
use Rattle.file_blocks.specs.Sums.{sum_a, sum_b}
use Rattle.file_blocks.specs.Places.{Place}
use Rattle.file_blocks.specs.Files.{places_bytes, body_of, block_of}
use Rattle.file_blocks.specs.Questions.{counted, places_from, places_in, summed, filled}
use Rattle.file_blocks.proofs.Bytes.{All, all_append, all_drop, all-every, all_replicate, Bytes, Fits}
use Rattle.file_blocks.proofs.Bytes.{length-places_bytes, places_bytes-bytes, read-places, read_word, words-bytes}
use Rattle.file_blocks.proofs.Bytes.{write-places, write-words, zeros}
use Rattle.file_blocks.proofs.Reading.{length-places_from, Numbered, word-drop}

-- Zeros behind some numbers.

pub length-padded : (n : ℕ) (xs : List ℕ) → length xs ≤ n → length (padded n xs) ≡ n
length-padded n xs l =
    omega (arith, length-append xs (replicate (n - length xs) 0), length-replicate {A = ℕ} (n - length xs) 0)

pub zeros-every : (n : ℕ) → every (eqb 0) (replicate n 0) ≡ true
zeros-every n = all-every (λ x. 0 ≡ x) (eqb 0) (λ x e. eqb_of 0 x e) (replicate n 0) (all_replicate _ n 0 refl)

-- What stands behind the numbers is zero.
pub padded-rest : (n k : ℕ) (xs : List ℕ) → length xs ≡ k → every (eqb 0) (drop k (padded n xs)) ≡ true
padded-rest n k xs e =
    ap (every (eqb 0)) (drop_at xs (replicate (n - length xs) 0) k e) ∙ zeros-every (n - length xs)

-- A list that ends in zeros is its front with these zeros put back.
pub padded-back :
    (n k : ℕ) (xs : List ℕ) → length xs ≡ n → k ≤ n → every (eqb 0) (drop k xs) ≡ true → padded n (take k xs) ≡ xs
padded-back n k xs e l t =
    let m : n - length (take k xs) ≡ length (drop k xs) = omega (arith, length-take k xs, length-drop k xs) in
    ap (λ (j : ℕ). take k xs ++ replicate j 0) m
    ∙ ap (λ (ys : List ℕ). take k xs ++ ys) (sym (zeros (drop k xs) t)) ∙ take-append-drop k xs

-- A block that is written, with at most 22 places.

word-behind : (xs ys : List ℕ) (n k : ℕ) → length xs ≡ n → word_at (xs ++ ys) (n + k) ≡ word_at ys k
word-behind xs ys n k e =
    let a : length xs + k ≡ n + k = omega arith in
    let b : length xs + (k + 1) ≡ n + k + 1 = omega arith in
    ap₂ (λ (p q : ℕ). p + BYTE * q)
    (ap (λ (i : ℕ). get_or (xs ++ ys) i 0) (sym a) ∙ get_or-append-add xs ys k 0)
    (ap (λ (i : ℕ). get_or (xs ++ ys) i 0) (sym b) ∙ get_or-append-add xs ys (k + 1) 0)

-- A body with its sums passes 17.
body-summed : (body : List ℕ) → length body ≡ 508 → summed (body ++ (word (sum_a body) ++ word (sum_b body))) ≡ true
unfolding summed
body-summed body e =
    let ends = word (sum_a body) ++ word (sum_b body) in
    let t : take 508 (body ++ ends) ≡ body = take_at body ends 508 e in
    let a = read_word (sum_a body) (omega arith) in
    let b = read_word (sum_b body) (omega arith) in
    and-of _ _
    (eqb_of _ _ (word-behind body ends 508 0 e ∙ a ∙ ap sum_a (sym t)))
    (eqb_of _ _ (word-behind body ends 508 2 e ∙ b ∙ ap sum_b (sym t)))

module _ (index n : ℕ) (ps : List Place) where
  block-count : length ps ≤ 22 → word_at (block_of index n ps) 4 ≡ length ps
  block-count l = read_word (length ps) (omega arith)

  pub block-numbered :
      length ps ≤ 22 → n < WORD → index < WORD → counted n index (length ps) ≡ true
      → Numbered n index (block_of index n ps)
  block-numbered few l m t =
      record { number = read_word index m; blocks = read_word n l; count = ap (counted n index) (block-count few) ∙ t }

  pub block-places : length ps ≤ 22 → All Fits ps → places_in (block_of index n ps) ≡ ps
  block-places few fit =
      let body = body_of index n ps in
      let rest = replicate {A = ℕ} (508 - length (word index ++ (word n ++ (word (length ps) ++ places_bytes ps)))) 0 in
      let ends = word (sum_a body) ++ word (sum_b body) in
      ap (λ (k : ℕ). places_from k (drop 6 (block_of index n ps))) (block-count few)
      ∙ ap (places_from (length ps)) (append_assoc (places_bytes ps) rest ends) ∙ read-places ps (rest ++ ends) fit

  pub block-bytes :
      All (λ p. (p.positives < 128) × (p.negatives < BYTE)) ps → Bytes (block_of index n ps)
  unfolding words
  block-bytes a =
      let body = body_of index n ps in
      let content = word index ++ (word n ++ (word (length ps) ++ places_bytes ps)) in
      all_append _ body (word (sum_a body) ++ word (sum_b body))
      (all_append _ content (replicate (508 - length content) 0)
      (all_append _ (words (index ∷ n ∷ length ps ∷ [])) (places_bytes ps)
      (words-bytes (index ∷ n ∷ length ps ∷ [])) (places_bytes-bytes ps a))
      (all_replicate _ (508 - length content) 0 (omega arith)))
      (words-bytes (sum_a body ∷ sum_b body ∷ []))

  module _ (few : length ps ≤ 22) (eight : All (λ p. length p.entries ≡ 8) ps) where
    length-content :
        length (word index ++ (word n ++ (word (length ps) ++ places_bytes ps))) ≡ 6 + 22 * length ps
    length-content = omega (arith, length-places_bytes ps eight)

    length-body : length (body_of index n ps) ≡ 508
    length-body =
        length-padded 508 (word index ++ (word n ++ (word (length ps) ++ places_bytes ps)))
        (omega (arith, length-content))

    pub length-block : length (block_of index n ps) ≡ 512
    length-block =
        let body = body_of index n ps in
        omega (arith, length-append body (word (sum_a body) ++ word (sum_b body)), length-body)

    pub block-summed : summed (block_of index n ps) ≡ true
    block-summed = body-summed (body_of index n ps) length-body

    pub block-filled : filled (block_of index n ps) ≡ true
    unfolding filled
    block-filled =
        let body = body_of index n ps in
        let c = word_at (block_of index n ps) 4 in
        ap (λ (xs : List ℕ). every (eqb 0) (drop (6 + 22 * c) xs))
        (take_at body (word (sum_a body) ++ word (sum_b body)) 508 length-body)
        ∙ padded-rest 508 (6 + 22 * c) (word index ++ (word n ++ (word (length ps) ++ places_bytes ps)))
        (omega (arith, length-content, block-count few))

-- A block that is read: 512 bytes that pass 17 and 19 are those of its places.

module _ (b : List ℕ) (n : length b ≡ 512) (w : Bytes b) (few : word_at b 4 ≤ 22) where
  head-back : word (word_at b 0) ++ (word (word_at b 2) ++ word (word_at b 4)) ≡ take 6 b
  unfolding words words_in
  head-back =
      ap₂ (λ (x y : ℕ). word (word_at b 0) ++ (word x ++ word y))
      (sym (word-drop 2 0 b)) (sym (word-drop 2 0 (drop 2 b) ∙ word-drop 2 2 b))
      ∙ write-words 3 b (omega arith) w

  content-back :
      word (word_at b 0) ++ (word (word_at b 2) ++ (word (length (places_in b)) ++ places_bytes (places_in b)))
      ≡ take (6 + 22 * word_at b 4) b
  content-back =
      let c = word_at b 4 in
      ap (λ (k : ℕ). word (word_at b 0) ++ (word (word_at b 2) ++ (word k ++ places_bytes (places_in b))))
      (length-places_from c (drop 6 b))
      ∙ ap₂ ◌++◌ head-back (write-places c (drop 6 b) (omega (arith, length-drop 6 b)) (all_drop _ 6 b w))
      ∙ sym (take-add 6 (22 * c) b)

  body_back : filled b ≡ true → body_of (word_at b 0) (word_at b 2) (places_in b) ≡ take 508 b
  unfolding filled
  body_back t =
      let k = 6 + 22 * word_at b 4 in
      ap (padded 508) (content-back ∙ sym (take-take k 508 b (omega arith)))
      ∙ padded-back 508 k (take 508 b) (omega (arith, length-take 508 b)) (omega arith) t

  pub block_back : filled b ≡ true → summed b ≡ true → block_of (word_at b 0) (word_at b 2) (places_in b) ≡ b
  unfolding summed words words_in
  block_back t u =
      let body = take 508 b in
      let a : sum_a body ≡ word_at (drop 508 b) 0 =
      sym (word-drop 508 0 b ∙ eqb-eq _ _ (and_l (eqb (word_at b 508) (sum_a body)) _ u)) in
      let c : sum_b body ≡ word_at (drop 2 (drop 508 b)) 0 =
      sym (word-drop 2 0 (drop 508 b) ∙ word-drop 508 2 b
      ∙ eqb-eq _ _ (and_r (eqb (word_at b 508) (sum_a body)) _ u)) in
      ap (λ (xs : List ℕ). xs ++ (word (sum_a xs) ++ word (sum_b xs))) (body_back t)
      ∙ ap (λ (xs : List ℕ). body ++ xs)
      (ap₂ (λ (x y : ℕ). word x ++ word y) a c
      ∙ write-words 2 (drop 508 b) (omega (arith, length-drop 508 b)) (all_drop _ 508 b w)
      ∙ take_all 4 (drop 508 b) (omega (arith, length-drop 508 b)))
      ∙ take-append-drop 508 b
