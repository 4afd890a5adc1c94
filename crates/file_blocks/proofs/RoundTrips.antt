-- Reading a written table gives the same table, and each accepted file is the one that its table writes (request #103).
-- The rules of an accepted file have no loop through a negation. Assumes nothing.
use Rattle.std.proofs.Common.{◌≡◌, ℕ, ◌+◌, ◌*◌, ◌%◌, ◌<◌, ◌≤◌, true, eqb, ltb, leb, ◌⊎◌, List, [], map, length, get_or, drop, sym, refl, ap, ◌∙◌, subst, inl, inr, ⊎_elim, arith}
use mathlib.Core.Option.{none, some}
use Rattle.theory.specs.Lists.{every}
use Rattle.theory.specs.Limits.{document, Limits}
use Rattle.theory.specs.Rules.{all, Held, Page, Pages, Rule}
use Rattle.theory.specs.Dependencies.{NegativeCycle}
use Rattle.theory.specs.Questions.{first_no, rule_questions}
use Rattle.theory.specs.Sound.{SoundRules}
use Rattle.theory.proofs.Cycles.{stratified-iff}
use Rattle.theory.proofs.Lists.{and_l, and-of, and_r, eqb_of, leb-le, le-leb, le-or-lt, lt-ltb, ltb-lt, some_below}
use Rattle.theory.proofs.Pages.{held-page}
use Rattle.theory.proofs.Questions.{first_no-none, first_no-yes}
use Rattle.file_blocks.specs.Words.{BYTE, WORD}
use Rattle.file_blocks.specs.Places.{page_in_place, Place, recorded, records, records_from, rule_in}
use Rattle.file_blocks.specs.Files.{BLOCK, blocks_for, blocks_from, file_of, file_with}
use Rattle.file_blocks.specs.Questions.{ascends, block_count, blocks, blocks_in, distinct_rules, file_questions, filled}
use Rattle.file_blocks.specs.Questions.{pages_of, pages_with, places_of, records_right, right, whole}
use Rattle.file_blocks.proofs.Bytes.{All, all_both, all-every, Bytes, every-all, Fits}
use Rattle.file_blocks.proofs.Reading.{places-blocks, whole_parts}
use Rattle.file_blocks.proofs.Sequences.{blocks-back, blocks-bytes, blocks-pass, Eight, length-blocks, Passes}
use Rattle.file_blocks.proofs.Sequences.{places-eight}
use Rattle.file_blocks.proofs.Pages.{recorded-back, records-pages}
use Rattle.file_blocks.proofs.Records.{length-records, pages-sound, recorded-counts, recorded-eight}
use Rattle.file_blocks.proofs.Records.{recorded-fits, records-all, records-right}

-- So many blocks: the records have room in them, and none is empty but the only one.

blocks-room : (n : ℕ) → n ≤ 22 * blocks_for n
blocks-room n = omega arith

blocks-used : (n : ℕ) → (22 * blocks_for n < n + 22) ⊎ (blocks_for n ≡ 1)
blocks-used n = ⊎_elim
    (λ (l : 1 ≤ n). inl (omega arith))
    (λ (l : n < 1). inr (omega arith))
    (le-or-lt 1 n)

module _ (limits : Limits) (few : limits.entries ≤ 8) where
  -- A record that passes 19 is recorded as it was read.
  place-back :
      (p : Place) → Eight p → right limits p ≡ true → recorded p.slot (page_in_place p) ≡ p
  unfolding right
  place-back p eight t =
      let c = leb (p.positives + p.negatives) limits.entries in
      let z = every (eqb 0) (drop (p.positives + p.negatives) p.entries) in
      let l = leb-le (p.positives + p.negatives) limits.entries (and_l c _ t) in
      recorded-back p eight (omega arith) (and_l z _ (and_r c _ t))

  module _
      (B : Pages) (passes : (s : ℕ) (r : Rule) → Held (all B) s r → first_no (rule_questions limits r) ≡ none)
    where
      page-passes : (s : ℕ) (p : Page) → get_or B s none ≡ some p → first_no (rule_questions limits p.rule) ≡ none
      page-passes s p h = passes s p.rule (held-page B s p h)

      length-file : length (file_of B) ≡ 512 * blocks_for (length (records B))
      unfolding file_of
      length-file =
          let n = blocks_for (length (records B)) in
          length-blocks n n 0 (records B)
          (records-all Eight 0 B (λ t p h. recorded-eight limits few (0 + t) p (page-passes t p h)))

      bytes-file : Bytes (file_of B)
      unfolding file_of
      bytes-file =
          let n = blocks_for (length (records B)) in
          blocks-bytes n n 0 (records B)
          (records-all _ 0 B (λ t p h. recorded-counts limits few (0 + t) p (page-passes t p h)))

      count-file : block_count (file_of B) ≡ blocks_for (length (records B))
      count-file = omega (arith, length-file)

      file-passes :
          limits.atoms ≤ WORD → length B ≤ WORD
          → Passes (block_count (file_of B)) 0 (blocks (file_of B)) (records B)
      unfolding file_of
      file-passes atoms slots =
          let ps = records B in
          let n = blocks_for (length ps) in
          let l = length-records 0 B in
          let fits : All Fits ps = records-all Fits 0 B (λ t p h. recorded-fits limits few (0 + t) p atoms
          (omega (arith, some_below B t p h)) (page-passes t p h)) in
          subst (λ (m : ℕ). Passes m 0 (blocks_in m (file_of B)) ps) (sym count-file)
          (blocks-pass n n 0 ps fits (omega arith) (omega arith) (blocks-room (length ps)) (blocks-used (length ps)))

  -- Sound pages, and limits that the format has room for.
  module _
      (atoms : limits.atoms ≤ WORD) (slots : limits.slots ≤ 264) (B : Pages)
      (sound : SoundRules limits B)
    where
      whole-file : whole (file_of B) ≡ true
      unfolding whole
      whole-file =
          let n = length-file B sound.passes in
          let m = count-file B sound.passes in
          let l = length-records 0 B in
          and-of _ _ (eqb_of (length (file_of B) % 512) 0 (omega (arith, n)))
          (and-of _ _
          (le-leb 1 (block_count (file_of B)) (omega (arith, m)))
          (le-leb (block_count (file_of B)) 12 (omega (arith, m, l, sound.slots))))

      accepted-file : first_no (file_questions limits (file_of B)) ≡ none
      accepted-file =
          let p = file-passes B sound.passes atoms (omega (arith, sound.slots)) in
          first_no-yes _ _ whole-file
          ∙ first_no-yes _ _ p.sums
          ∙ first_no-yes _ _ p.numbers
          ∙ first_no-yes _ _ (and-of _ _ p.filler
          (ap (records_right limits) p.places ∙ records-right limits few B sound))
          ∙ (unfold first_no in refl)

      pages-of_file : pages_of limits (file_of B) ≡ B
      pages-of_file =
          let p = file-passes B sound.passes atoms (omega (arith, sound.slots)) in
          ap (pages_with limits) p.places ∙ pages-sound limits few B sound

  -- Records whose slots ascend below the limit and that are right one by one are those of their pages.
  pub records-of-pages :
      (ps : List Place) → All Eight ps → ascends 0 (map (λ p. p.slot) ps) ≡ true
      → every (λ p. ltb p.slot limits.slots) ps ≡ true → every (right limits) ps ≡ true
      → records (pages_with limits ps) ≡ ps
  unfolding records_from
  records-of-pages ps eight up low well =
      records-pages limits [] limits.slots ps up
      (every-all (λ p. p.slot < 0 + limits.slots) (λ p. ltb p.slot limits.slots)
      (λ p l. omega (arith, ltb-lt p.slot limits.slots l)) ps low)
      (all_both (λ p a b. place-back p a b) ps eight
      (every-all (λ p. right limits p ≡ true) (right limits) (λ p l. l) ps well))

  -- Records that pass 19 are those of their pages.
  records-back :
      (ps : List Place) → All Eight ps → records_right limits ps ≡ true → records (pages_with limits ps) ≡ ps
  unfolding records_right
  records-back ps eight t =
      let up = ascends 0 (map (λ p. p.slot) ps) in
      let low = every (λ p. ltb p.slot limits.slots) ps in
      let u = and_r up _ t in
      let v = and_r low _ u in
      records-of-pages ps eight (and_l up _ t) (and_l low _ u) (and_l (every (right limits) ps) _ v)

  -- Bytes that are accepted.
  module _ (bs : List ℕ) (w : Bytes bs) (e : first_no (file_questions limits bs) ≡ none) where
    file-back : file_of (pages_of limits bs) ≡ bs
    unfolding file_of
    file-back =
        let one = first_no-none _ _ e in
        let two = first_no-none _ _ one.1 in
        let three = first_no-none _ _ two.1 in
        let four = first_no-none _ _ three.1 in
        let ps = places_of (blocks bs) in
        let n = block_count bs in
        let b : blocks_for (length ps) ≡ n = places-blocks bs one.0 three.0 in
        ap file_with (records-back ps (places-eight (blocks bs)) (and_r (every filled (blocks bs)) _ four.0))
        ∙ ap (λ (m : ℕ). blocks_from m 0 m ps) b
        ∙ blocks-back n n 0 bs (omega arith) (whole_parts bs one.0).length w two.0 three.0
        (and_l (every filled (blocks bs)) _ four.0)

-- Records that pass 19 have no loop through a negation.
module _ (limits : Limits) where
  records-acyclic :
      (ps : List Place) → records_right limits ps ≡ true → NegativeCycle (all (pages_with limits ps)) → ⊥
  unfolding records_right
  records-acyclic ps t =
      let up = ascends 0 (map (λ p. p.slot) ps) in
      let low = every (λ p. ltb p.slot limits.slots) ps in
      (stratified-iff (all (pages_with limits ps))).0
      (and_r (distinct_rules (map rule_in ps)) _
      (and_r (every (right limits) ps) _ (and_r low _ (and_r up _ t))))

-- With the specification's limits (`document`).

module _
    (B : Pages) (passes : (s : ℕ) (r : Rule) → Held (all B) s r → first_no (rule_questions document r) ≡ none)
  where
    pub file-length : length (file_of B) ≡ BLOCK * blocks_for (length (records B))
    file-length = length-file document (omega arith) B passes

    pub file-bytes : every (λ b. ltb b BYTE) (file_of B) ≡ true
    file-bytes =
        all-every (λ b. b < BYTE) (λ b. ltb b BYTE) (λ b l. lt-ltb b BYTE l) (file_of B)
        (bytes-file document (omega arith) B passes)

module _ (B : Pages) (sound : SoundRules document B) where
  -- The file of a sound table is accepted.
  pub file-accepted : first_no (file_questions document (file_of B)) ≡ none
  file-accepted = accepted-file document (omega arith) (omega arith) (omega arith) B sound

  -- Reading it gives the same table.
  pub file-pages : pages_of document (file_of B) ≡ B
  file-pages = pages-of_file document (omega arith) (omega arith) (omega arith) B sound

-- Each accepted file is, byte for byte, the one that its table writes.
pub pages-file :
    (bs : List ℕ) → every (λ b. ltb b BYTE) bs ≡ true → first_no (file_questions document bs) ≡ none
    → file_of (pages_of document bs) ≡ bs
pages-file bs w e =
    file-back document (omega arith) bs (every-all _ (λ b. ltb b BYTE) (λ b t. ltb-lt b BYTE t) bs w) e

-- The rules of an accepted file, muted or not, have no loop through a negation.
pub pages-acyclic :
    (bs : List ℕ) → first_no (file_questions document bs) ≡ none → NegativeCycle (all (pages_of document bs)) → ⊥
pages-acyclic bs e =
    let three = first_no-none _ _ (first_no-none _ _ (first_no-none _ _ e).1).1 in
    records-acyclic document (places_of (blocks bs))
    (and_r (every filled (blocks bs)) _ (first_no-none _ _ three.1).0)
