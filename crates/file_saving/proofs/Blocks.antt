-- The bytes of a block, and of the blocks one behind the other. Assumes nothing.
use Prim.Native.Nat.{ℕ, zero, suc, min, ◌+◌, ◌-◌, ◌*◌, ◌≤◌, ◌<◌}
use native.Mathlib.Omega.{arith}
use native.Mathlib.Numerals.{add-one}
use mathlib.Core.Path.{◌≡◌, sym, ◌∙◌, ap, ap₂, subst}
use mathlib.Core.Logic.{⊎_elim}
use mathlib.Core.List.{List, ◌++◌, append_assoc, append-nil}
use lib.ListN.{length, take, drop, replicate, length-take, length-drop}
use lib.Seq.{take_all, drop-drop}
use Rattle.theory.proofs.Lists.{le-or-lt}
use Rattle.table.specs.declared.Rule.{Rule}
use Rattle.table.specs.Rules.{book_of}
use Rattle.fields.specs.Written.{Wrote}
use Rattle.fields.proofs.Wrote.{wrote_nothing, wrote_then, wrote-to, wrote-there}
use Rattle.file_blocks.specs.Words.{word}
use Rattle.file_blocks.specs.Sums.{sum_a, sum_b}
use Rattle.file_blocks.specs.Places.{Place, records}
use Rattle.file_blocks.specs.Files.{BLOCK, BODY, HEADER, PLACES, PLACE}
use Rattle.file_blocks.specs.Files.{places_bytes, body_of, block_of, blocks_from, blocks_for, file_of}
use Rattle.file_records.specs.declared.HeldSlots.{HeldSlots}
use Rattle.file_records.specs.Held.{HeldIn}
use Rattle.file_records.specs.Bytes.{records_bytes}
use Rattle.file_saving.specs.Bytes.{header_bytes, sums_bytes, block_bytes}

-- So many elements of a list, or as many of these as it has.
take-there : {A : Type 0} (n m : ℕ) (xs : List A) → m ≡ min n (length xs) → take m xs ≡ take n xs
take-there n m xs e = ⊎_elim
    (λ (l : n ≤ length xs). (let q : m ≡ n = omega arith in rw q))
    (λ (l : length xs < n). take_all m xs (omega arith) ∙ sym (take_all n xs (omega arith)))
    (le-or-lt n (length xs))

-- A head, n records and zeros are the body of a block.
wrote-body :
    {before one two after : List ℕ} {at : ℕ} (index blocks n : ℕ) (ps : List Place) → n ≡ length ps
    → Wrote (word index ++ (word blocks ++ word n)) before at one (at + HEADER)
    → Wrote (places_bytes ps) one (at + HEADER) two (at + HEADER + PLACE * n)
    → Wrote (replicate (at + BODY - (at + HEADER + PLACE * n)) 0) two (at + HEADER + PLACE * n) after (at + BODY)
    → Wrote (body_of index blocks ps) before at after (at + BODY)
wrote-body {before} {two = two} {at = at} index blocks n ps e head records zeros =
    let used = word index ++ (word blocks ++ (word (length ps) ++ places_bytes ps)) in
    let w : Wrote used before at two (at + HEADER + PLACE * n) = wrote_then (rw e at head) records in
    let size : at + BODY - (at + HEADER + PLACE * n) ≡ BODY - length used = omega (arith, w.place) in
    wrote_then w (rw size at zeros)

-- A and B of the bytes from `at` to below at + 508, written behind them.
pub wrote-sums :
    {out middle after : List ℕ} {next end : ℕ} (at a b : ℕ) → a ≡ sum_a (take (at + BODY - at) (drop at out))
    → b ≡ sum_b (take (at + BODY - at) (drop at out)) → Wrote (word a) out (at + BODY) middle next
    → Wrote (word b) middle (at + BODY + 2) after end
    → Wrote (sums_bytes (take BODY (drop at out))) out (at + BODY) after (at + BLOCK)
unfolding sums_bytes
wrote-sums {out} {after = after} at a b is-a is_b first second =
    let size : at + BODY - at ≡ BODY = omega arith in
    let one = wrote-to (at + BODY + 2) first.place first in
    let two = wrote-to (at + BLOCK) (omega (arith, second.place)) second in
    subst (λ (x : ℕ × ℕ). Wrote (word x.0 ++ word x.1) out (at + BODY) after (at + BLOCK))
    (ap₂ (λ (x y : ℕ). (x, y)) (rw size at is-a) (rw size at is_b)) (wrote_then one two)

-- The body and its sums are the block. It has the first 22 of the records that are left, or all of them.
pub wrote-block :
    {before one two three after : List ℕ} {at : ℕ} (rules : List Rule) (index blocks n : ℕ)
    → n ≡ min PLACES (length (records (book_of rules)) - PLACES * index)
    → Wrote (header_bytes index blocks n) before at one (at + HEADER)
    → Wrote (records_bytes rules (PLACES * index) n) one (at + HEADER) two (at + HEADER + PLACE * n)
    → Wrote (replicate (at + BODY - (at + HEADER + PLACE * n)) 0) two (at + HEADER + PLACE * n) three (at + BODY)
    → Wrote (sums_bytes (take BODY (drop at three))) three (at + BODY) after (at + BLOCK)
    → Wrote (block_bytes index blocks rules) before at after (at + BLOCK)
unfolding header_bytes records_bytes sums_bytes block_bytes
wrote-block rules index blocks n e head places zeros sums =
    let ps = drop (PLACES * index) (records (book_of rules)) in
    let left = length-drop (PLACES * index) (records (book_of rules)) in
    let size : n ≡ length (take PLACES ps) = omega (arith, left, length-take PLACES ps) in
    let all : take n ps ≡ take PLACES ps = take-there PLACES n ps (omega (arith, left)) in
    let body = wrote-body index blocks n (take PLACES ps) size head (rw all at places) zeros in
    wrote_then body (rw (wrote-there BODY body) at sums)

-- One more block.
blocks-next :
    (k index blocks : ℕ) (ps : List Place)
    → blocks_from (suc k) index blocks ps
    ≡ blocks_from k index blocks ps ++ block_of (index + k) blocks (take PLACES (drop (PLACES * k) ps))
unfolding blocks_from
blocks-next zero index blocks ps =
    let e : index ≡ index + 0 = omega arith in
    append-nil (block_of index blocks (take PLACES ps))
    ∙ ap (λ (n : ℕ). block_of n blocks (take PLACES ps)) e
blocks-next (suc k) index blocks ps =
    let first = block_of index blocks (take PLACES ps) in
    let rest = drop PLACES ps in
    let later : suc index + k ≡ index + suc k = omega arith in
    let behind : drop (PLACES * k) rest ≡ drop (PLACES * suc k) ps =
    drop-drop (PLACES * k) PLACES ps
    ∙ ap (λ (n : ℕ). drop n ps) (let e : PLACES + PLACES * k ≡ PLACES * suc k = omega arith in e) in
    ap (λ (bs : List ℕ). first ++ bs)
    (blocks-next k (suc index) blocks rest
    ∙ ap₂ (λ (n : ℕ) (qs : List Place). blocks_from k (suc index) blocks rest ++ block_of n blocks (take PLACES qs))
    later behind)
    ∙ sym (append_assoc first (blocks_from k (suc index) blocks rest)
    (block_of (index + suc k) blocks (take PLACES (drop (PLACES * suc k) ps))))

-- The first blocks of the file: none, one more, as many as the records take.
module _ (rules : List Rule) (blocks : ℕ) where
  unfoldable pub first_blocks : ℕ → List ℕ
  first_blocks i = blocks_from i 0 blocks (records (book_of rules))

  pub wrote-no-block : (before : List ℕ) → Wrote (first_blocks 0) before 0 before (BLOCK * 0)
  unfolding first_blocks blocks_from
  wrote-no-block before = wrote_nothing (omega arith)

  pub wrote-next-block :
      {before out after : List ℕ} (i : ℕ) → Wrote (first_blocks i) before 0 out (BLOCK * i)
      → Wrote (block_bytes i blocks rules) out (BLOCK * i) after (BLOCK * (i + 1))
      → Wrote (first_blocks (i + 1)) before 0 after (BLOCK * (i + 1))
  unfolding first_blocks block_bytes
  wrote-next-block i v w =
      let R = records (book_of rules) in
      let none : 0 + i ≡ i = omega arith in
      let more : first_blocks (i + 1) ≡ first_blocks i ++ block_bytes i blocks rules =
      rw (add-one i)
      (blocks-next i 0 blocks R
      ∙ ap (λ (n : ℕ). first_blocks i ++ block_of n blocks (take PLACES (drop (PLACES * i) R))) none) in
      rw more (wrote_then v w)

  pub wrote-file :
      {before after : List ℕ} (h : HeldSlots) (i : ℕ) → HeldIn (book_of rules) h → blocks ≡ blocks_for h.count
      → i ≡ blocks → Wrote (first_blocks i) before 0 after (BLOCK * i)
      → Wrote (file_of (book_of rules)) before 0 after (BLOCK * blocks)
  unfolding first_blocks file_of
  wrote-file {before} {after} h i H enough over w =
      let R = records (book_of rules) in
      let e : blocks ≡ blocks_for (length R) = enough ∙ ap blocks_for H.count in
      subst (λ (n : ℕ). Wrote (blocks_from n 0 n R) before 0 after (BLOCK * blocks)) e (rw over at w)
