-- The bytes of a clean slot's record, and of the records one behind the other. Assumes nothing.
use Prim.Native.Nat.{ℕ, ◌+◌, ◌-◌, ◌*◌, ◌≤◌, ◌<◌}
use native.Mathlib.Omega.{arith}
use native.Mathlib.Numerals.{add-one}
use mathlib.Core.Path.{◌≡◌, refl, sym, ◌∙◌, ap, ap₂, subst}
use mathlib.Core.Bool.{Bool}
use mathlib.Core.List.{List, [], ◌∷◌, ◌++◌, map-append, append_assoc, append-nil}
use lib.Dec.{leb}
use lib.ListN.{length, get_or, take, drop, set, replicate}
use lib.ListN.{length-append, length-set, length-map, length-take, length-drop, length-replicate}
use lib.ListN.{take-append-drop, get_or-map}
use lib.Seq.{take-suc, get_or-drop, ext_get_or}
use Rattle.theory.specs.Limits.{document}
use Rattle.theory.specs.Rules.{entries}
use Rattle.theory.proofs.Lists.{le-leb, leb-le, unless}
use Rattle.table.specs.declared.Atom.{Atom}
use Rattle.table.specs.declared.Rule.{Rule}
use Rattle.table.specs.declared.Slot.{Slot}
use Rattle.table.specs.Rules.{numbers, rule_of, book_of, no_atom, past_rule}
use Rattle.table.specs.Clean.{CleanRule}
use Rattle.table.proofs.Members.{all_alike}
use Rattle.table.proofs.Entries.{entries-are}
use Rattle.fields.specs.Written.{Wrote}
use Rattle.fields.proofs.Wrote.{wrote_nothing, wrote_then, wrote-length, wrote-to, wrote-byte}
use Rattle.file_blocks.specs.Words.{word, words, padded}
use Rattle.file_blocks.specs.Places.{count_byte, Place, place_bytes, recorded, records, PLACE_ENTRIES}
use Rattle.file_blocks.specs.Files.{places_bytes, PLACE}
use Rattle.file_records.specs.declared.HeldSlots.{HeldSlots}
use Rattle.file_records.specs.Held.{HeldIn, slot}
use Rattle.file_records.specs.Bytes.{held_page, record_bytes, records_bytes}
use Rattle.file_records.proofs.Held.{no_place, record-at}

-- Words of two lists, and of one entry more.
words_append : (xs ys : List ℕ) → words (xs ++ ys) ≡ words xs ++ words ys
unfolding words
words_append [] ys = refl
words_append (x ∷ xs) ys = ap (λ (bs : List ℕ). word x ++ bs) (words_append xs ys)

pub wrote-next-entry :
    {before out after : List ℕ} {at end : ℕ} (xs : List Atom) (j : ℕ) → j < length xs
    → Wrote (words (numbers (take j xs))) before at out (at + 2 * j)
    → Wrote (word (get_or xs j no_atom).0) out (at + 2 * j) after end
    → Wrote (words (numbers (take (j + 1) xs))) before at after (at + 2 * (j + 1))
unfolding words
wrote-next-entry {at = at} xs j l v w =
    let x = (get_or xs j no_atom).0 in
    let more : words (numbers (take (j + 1) xs)) ≡ words (numbers (take j xs)) ++ word x =
    rw (add-one j)
    (ap (λ ys. words (numbers ys)) (take-suc xs j no_atom l)
    ∙ ap words (map-append (λ (a : Atom). a.0) (take j xs) (get_or xs j no_atom ∷ []))
    ∙ words_append (numbers (take j xs)) (x ∷ [])) in
    rw more (wrote_then v (wrote-to (at + 2 * (j + 1)) (omega (arith, w.place)) w))

-- The byte of a positive count by the state: without the mark, and with it.
module _ (state n : ℕ) where
  pub count-plain : state < 2 → n ≡ count_byte (leb 2 state) n
  count-plain l =
      sym (ap (λ (m : Bool). count_byte m n) (unless (leb 2 state) (λ t. (let m = leb-le 2 state t in omega arith)))
      ∙ omega arith)

  pub count-marked : 2 ≤ state → 128 + n ≡ count_byte (leb 2 state) n
  count-marked l = sym (ap (λ (m : Bool). count_byte m n) (le-leb 2 state l))

-- A clean slot's fields are those of its rule, and its entries are the rule's with zeros behind them.
module _ (r : Rule) (long : length r.entries ≡ document.entries) (clean : CleanRule r) where
  abbrev used : ℕ
  used = r.positives + r.negatives

  abbrev muted : Bool
  muted = leb 2 r.state

  positives-many : length (rule_of r).positives ≡ r.positives
  positives-many =
      length-map (take r.positives r.entries) (λ a. a.0)
      ∙ length-take r.positives r.entries
      ∙ omega (arith, clean.fits)

  negatives-many : length (rule_of r).negatives ≡ r.negatives
  negatives-many =
      length-map (take r.negatives (drop r.positives r.entries)) (λ a. a.0)
      ∙ length-take r.negatives (drop r.positives r.entries)
      ∙ omega (arith, clean.fits, length-drop r.positives r.entries)

  entries-many : length (entries (rule_of r)) ≡ used
  entries-many =
      omega (
        arith,
        length-append (rule_of r).positives (rule_of r).negatives,
        positives-many,
        negatives-many,
      )

  zeros : numbers (drop used r.entries) ≡ replicate (PLACE_ENTRIES - length (entries (rule_of r))) 0
  zeros =
      let rest = PLACE_ENTRIES - length (entries (rule_of r)) in
      let size : length (numbers (drop used r.entries)) ≡ length (replicate {A = ℕ} rest 0) =
      length-map (drop used r.entries) (λ a. a.0)
      ∙ omega (arith, length-drop used r.entries, length-replicate {A = ℕ} rest 0, entries-many) in
      ext_get_or 0 _ _ size (λ i l.
      get_or-map (λ (a : Atom). a.0) (drop used r.entries) i no_atom
      ∙ ap (λ (a : Atom). a.0) (get_or-drop used r.entries i no_atom ∙ clean.filler (used + i) (omega arith))
      ∙ sym (all_alike {A = ℕ} rest i 0))

  entries-padded : padded PLACE_ENTRIES (entries (rule_of r)) ≡ numbers r.entries
  entries-padded =
      ap₂ (λ (xs ys : List ℕ). xs ++ ys)
      (sym (entries-are r document.entries long used (omega (arith, clean.fits)))) (sym zeros)
      ∙ sym (map-append (λ (a : Atom). a.0) (take used r.entries) (drop used r.entries))
      ∙ ap numbers (take-append-drop used r.entries)

  record-bytes :
      (s : ℕ)
      → word s
      ++ (word r.head.0 ++ (count_byte muted r.positives ∷ r.negatives ∷ words (numbers r.entries)))
      ≡ place_bytes (recorded s (held_page r))
  record-bytes s =
      sym (ap (λ (xs : List ℕ). word s ++ (word r.head.0 ++ xs))
      (ap₂ (λ (m : ℕ) (xs : List ℕ). count_byte muted m ∷ xs) positives-many
      (ap₂ (λ (m : ℕ) (xs : List ℕ). m ∷ xs) negatives-many (ap words entries-padded))))

  -- Slot, head, counts with the mark and entries written one behind the other are the record.
  pub wrote-record :
      {before one two after : List ℕ} (at s c : ℕ) → at + PLACE ≤ length before → c ≡ count_byte muted r.positives
      → Wrote (word s) before at one (at + 2) → Wrote (word r.head.0) one (at + 2) two (at + 4)
      → Wrote (words (numbers r.entries)) (set (set two (at + 4) c) (at + 5) r.negatives)
      (at + 6) after (at + PLACE)
      → Wrote (record_bytes s r) before at after (at + PLACE)
  unfolding record_bytes
  wrote-record {before} {one} {two} {after} at s c room count slot head rest =
      let same : length two ≡ length before = wrote-length head ∙ wrote-length slot in
      let stored = length-set two (at + 4) c in
      let p = wrote-to (at + 5) (omega arith) (wrote-byte two (at + 4) c (omega arith)) in
      let n = wrote-to (at + 6) (omega arith)
      (wrote-byte (set two (at + 4) c) (at + 5) r.negatives (omega arith)) in
      let all = wrote_then slot (wrote_then head (wrote_then p (wrote_then n rest))) in
      subst (λ (bs : List ℕ). Wrote bs before at after (at + PLACE))
      (ap (λ (x : ℕ). word s ++ (word r.head.0 ++ (x ∷ r.negatives ∷ words (numbers r.entries)))) count
      ∙ record-bytes s)
      all

-- The places of two lists, and one place more.
places-append : (ps qs : List Place) → places_bytes (ps ++ qs) ≡ places_bytes ps ++ places_bytes qs
unfolding places_bytes
places-append [] qs = refl
places-append (p ∷ ps) qs =
    ap (λ (bs : List ℕ). place_bytes p ++ bs) (places-append ps qs)
    ∙ sym (append_assoc (place_bytes p) (places_bytes ps) (places_bytes qs))

places-next :
    (ps : List Place) (from k : ℕ) (d : Place) → from + k < length ps
    → places_bytes (take (k + 1) (drop from ps))
    ≡ places_bytes (take k (drop from ps)) ++ place_bytes (get_or ps (from + k) d)
unfolding places_bytes
places-next ps from k d l =
    let p = get_or ps (from + k) d in
    rw (add-one k)
    (ap places_bytes (take-suc (drop from ps) k d (omega (arith, length-drop from ps)))
    ∙ ap (λ (q : Place). places_bytes (take k (drop from ps) ++ (q ∷ []))) (get_or-drop from ps k d)
    ∙ places-append (take k (drop from ps)) (p ∷ [])
    ∙ ap (λ (bs : List ℕ). places_bytes (take k (drop from ps)) ++ bs) (append-nil (place_bytes p)))

-- No record written, and one more.
module _ (rules : List Rule) (from : ℕ) where
  pub wrote-no-record : {before : List ℕ} (at : ℕ) → at ≤ length before
      → Wrote (records_bytes rules from 0) before at before (at + PLACE * 0)
  unfolding records_bytes places_bytes
  wrote-no-record at room = wrote-to (at + 0) (omega arith) (wrote_nothing room)

  pub wrote-next-record :
      {before out after : List ℕ} {at : ℕ} (h : HeldSlots) (H : HeldIn (book_of rules) h) (k : ℕ)
      → from + k < h.count → Wrote (records_bytes rules from k) before at out (at + PLACE * k)
      → (s : Slot) (r : Rule) → s ≡ get_or h.slots (from + k) (slot 0) → r ≡ get_or rules s.0 past_rule
      → Wrote (record_bytes s.0 r) out (at + PLACE * k) after (at + PLACE * k + PLACE)
      → Wrote (records_bytes rules from (k + 1)) before at after (at + PLACE * (k + 1))
  unfolding records_bytes record_bytes
  wrote-next-record {out = out} {after} {at} h H k l v s r noted read write =
      let R = records (book_of rules) in
      let w = subst (λ (q : Rule). Wrote (record_bytes s.0 q) out (at + PLACE * k) after (at + PLACE * k + PLACE)) read
      write in
      let is : get_or R (from + k) no_place ≡ recorded s.0 (held_page (get_or rules s.0 past_rule)) =
      rw noted (record-at rules h H (from + k) l) in
      let more = places-next R from k no_place (omega (arith, H.count))
      ∙ ap (λ (p : Place). places_bytes (take k (drop from R)) ++ place_bytes p) is in
      rw more (wrote_then v (wrote-to (at + PLACE * (k + 1)) (omega arith) w))
