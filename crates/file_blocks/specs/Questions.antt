-- Questions 16 to 19 (specification 7.7), asked of any bytes in this order over the whole file, and the pages that a
-- file has. Assumes nothing.
use Rattle.std.specs.Prelude.{ℕ, zero, suc, ◌+◌, ◌*◌, ◌/◌, ◌%◌, Bool, true, cond, not, ◌&&◌, ◌||◌, ltb, List, [], ◌∷◌, ◌++◌, map, length, take, drop, ◌==◌, nat_eq, nat_le, nat_lt, slice_set}
use Rattle.std.proofs.Math.Option.{some}
use Rattle.theory.specs.Lists.{every, any}
use Rattle.theory.specs.Limits.{Limits}
use Rattle.theory.specs.Rules.{Rule, Pages, all, same}
use Rattle.theory.specs.Questions.{Question, asks, first_no, is_some, rule_questions, stratified}
use Rattle.theory.specs.Book.{empty}
use Rattle.file_blocks.specs.Words.{word_at}
use Rattle.file_blocks.specs.Sums.{sum_a, sum_b}
use Rattle.file_blocks.specs.Places.{Place, place_numbered, rule_in, page_in_place}
use Rattle.file_blocks.specs.Files.{BLOCK, BODY, HEADER, PLACES, PLACE, BLOCKS}

-- How many blocks some bytes are, and these blocks.
abbrev pub block_count : List ℕ → ℕ
block_count bs = length bs / BLOCK

unfoldable pub blocks_in : ℕ → List ℕ → List (List ℕ)
blocks_in zero bs = []
blocks_in (suc n) bs = take BLOCK bs ∷ blocks_in n (drop BLOCK bs)

abbrev pub blocks : List ℕ → List (List ℕ)
blocks bs = blocks_in (block_count bs) bs

-- 16: Is the length 512 times 1 to 12?
unfoldable pub whole : List ℕ → Bool
whole bs = length bs % BLOCK == 0 && (nat_le 1 (block_count bs) && nat_le (block_count bs) BLOCKS)

-- 17: Are A and B of the block right?
unfoldable pub summed : List ℕ → Bool
summed b = word_at b BODY == sum_a (take BODY b) && word_at b (BODY + 2) == sum_b (take BODY b)

-- 18: Are index, number of blocks and number of records right? Every block but the last holds 22 records, the last at
-- least 1, but a file of one block may hold none.
unfoldable pub counted : ℕ → ℕ → ℕ → Bool
counted n index count = cond (nat_lt (suc index) n) (count == PLACES) (nat_le count PLACES && (nat_lt 0 count || n == 1))

unfoldable pub numbered : ℕ → ℕ → List (List ℕ) → Bool
numbered n index [] = true
numbered n index (b ∷ bs) =
    (word_at b 0 == index && (word_at b 2 == n && counted n index (word_at b 4))) && numbered n (suc index) bs

-- The places of a block that hold records, and of all blocks.
unfoldable pub places_from : ℕ → List ℕ → List Place
places_from zero bs = []
places_from (suc k) bs = place_numbered bs ∷ places_from k (drop PLACE bs)

abbrev pub places_in : List ℕ → List Place
places_in b = places_from (word_at b 4) (drop HEADER b)

unfoldable pub places_of : List (List ℕ) → List Place
places_of [] = []
places_of (b ∷ bs) = places_in b ++ places_of bs

-- Numbers that ascend, none below the first argument.
unfoldable pub ascends : ℕ → List ℕ → Bool
ascends least [] = true
ascends least (x ∷ xs) = nat_le least x && ascends (suc x) xs

-- 19, of filler: Are the unused places and the bytes 490 to 507 of the block zero? They stand behind its records.
unfoldable pub filled : List ℕ → Bool
filled b = every (nat_eq 0) (drop (HEADER + PLACE * word_at b 4) (take BODY b))

-- No two of the rules are the same.
unfoldable pub distinct_rules : List Rule → Bool
distinct_rules [] = true
distinct_rules (r ∷ rs) = not (any (same r) rs) && distinct_rules rs

module _ (limits : Limits) where
  -- 19, of one record: Does it pass 1 to 4 (2 by its counts), does each list ascend, are unused entries zero?
  unfoldable pub right : Place → Bool
  right p =
      nat_le (p.positives + p.negatives) limits.entries
      && (every (nat_eq 0) (drop (p.positives + p.negatives) p.entries)
      && (not (is_some (first_no (rule_questions limits (rule_in p))))
      && (ascends 0 (rule_in p).positives && ascends 0 (rule_in p).negatives)))

  -- Pages with each record on the page of its slot.
  unfoldable pub recorded_on : Pages → List Place → Pages
  recorded_on B [] = B
  recorded_on B (p ∷ ps) = recorded_on (slice_set B p.slot (some (page_in_place p))) ps

  abbrev pub pages_with : List Place → Pages
  pages_with ps = recorded_on (empty limits) ps

  -- 19, of the records: Do their slots ascend below 256, is each right by itself, and do they pass 5 and 7, muted
  -- or not?
  unfoldable pub records_right : List Place → Bool
  records_right ps =
      ascends 0 (map (λ p. p.slot) ps)
      && (every (λ p. ltb p.slot limits.slots) ps
      && (every right ps && (distinct_rules (map rule_in ps) && stratified (all (pages_with ps)))))

  -- Loading asks 16, 17, 18, 19.
  abbrev pub file_questions : List ℕ → List Question
  file_questions bs =
      asks 16 (whole bs)
      ∷ asks 17 (every summed (blocks bs))
      ∷ asks 18 (numbered (block_count bs) 0 (blocks bs))
      ∷ asks 19 (every filled (blocks bs) && records_right (places_of (blocks bs)))
      ∷ []

  -- The pages of a file: its records.
  abbrev pub pages_of : List ℕ → Pages
  pages_of bs = pages_with (places_of (blocks bs))
