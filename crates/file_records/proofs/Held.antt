-- The slots that hold rules are those of the records, found one after the other. Assumes nothing.
use Prim.Native.Nat.{ℕ, zero, suc, min, ◌+◌, ◌-◌, ◌≤◌, ◌<◌}
use native.Mathlib.Omega.{arith}
use native.Mathlib.Numerals.{add-one}
use mathlib.Core.Path.{◌≡◌, refl, sym, ◌∙◌, ap, ap₂}
use mathlib.Core.Logic.{⊎_elim}
use mathlib.Core.Bool.{false}
use mathlib.Core.List.{List, [], ◌∷◌, ◌++◌, map, map-append, append-nil}
use mathlib.Core.Option.{none, some, none-ne-some, some-injective}
use lib.ListN.{length, get_or, take, drop, set, length-append, length-set, length-take, length-drop, get_or-map}
use lib.Seq.{take-suc, take-suc-set, take-set-le, take_all, get_or-take, get_or-drop, length-take-le}
use Rattle.theory.specs.Limits.{document}
use Rattle.theory.specs.Rules.{Page, Pages}
use Rattle.theory.proofs.Lists.{le-or-lt, some_below}
use Rattle.table.specs.declared.Rule.{Rule}
use Rattle.table.specs.declared.Slot.{Slot}
use Rattle.table.specs.Rules.{book_of, page_of, past_rule}
use Rattle.table.proofs.Programs.{book-at, book-length, page-free, page-there}
use Rattle.file_blocks.specs.Places.{Place, recorded, records_from, records}
use Rattle.file_blocks.proofs.Pages.{records-append}
use Rattle.file_records.specs.declared.HeldSlots.{HeldSlots}
use Rattle.file_records.specs.Held.{HeldIn, slot}
use Rattle.file_records.specs.Bytes.{held_page}

-- What a page of a slot is.
page-of : (r : Rule) (p : Page) → page_of r ≡ some p → p ≡ held_page r
page-of r p e = ⊎_elim
    (λ (z : r.state ≤ 0). absurd (none-ne-some p (sym (page-free r (omega arith)) ∙ e)))
    (λ (z : 0 < r.state). sym (some-injective (held_page r) p (sym (page-there r (λ i. omega arith)) ∙ e)))
    (le-or-lt r.state 0)

-- Of the first i slots, those that hold rules are noted.
pub record Noting (B : Pages) (i count : ℕ) (slots : List Slot) : Type 0 where
  pub low : count ≤ i
  pub long : length slots ≡ document.slots
  pub many : count ≡ length (records (take i B))
  pub noted : take count slots ≡ map (λ p. slot p.slot) (records (take i B))

pub note-start : (B : Pages) (slots : List Slot) → length slots ≡ document.slots → Noting B 0 0 slots
unfolding records_from
note-start B slots l = record { low = omega arith; long = l; many = refl; noted = refl }

-- Slot i is noted behind the others, and counts if it holds a rule.
module _ (B : Pages) (i count : ℕ) (slots : List Slot) (below : i < length B) (room : i < document.slots)
    (N : Noting B i count slots)
  where
    one_more : records (take (i + 1) B) ≡ records (take i B) ++ records_from i (get_or B i none ∷ [])
    one_more =
        let e : 0 + length (take i B) ≡ i = omega (arith, length-take-le i B (omega arith)) in
        rw add-one
        (ap records (take-suc B i none below)
        ∙ records-append 0 (take i B) (get_or B i none ∷ [])
        ∙ ap (λ (k : ℕ). records (take i B) ++ records_from k (get_or B i none ∷ [])) e)

    stored : length (set slots count (slot i)) ≡ document.slots
    stored = length-set slots count (slot i) ∙ N.long

    note-free : get_or B i none ≡ none → Noting B (i + 1) count (set slots count (slot i))
    unfolding records_from
    note-free e =
        let same : records (take (i + 1) B) ≡ records (take i B) =
        one_more ∙ ap (λ o. records (take i B) ++ records_from i (o ∷ [])) e ∙ append-nil (records (take i B)) in
        record {
          low = omega (arith, N.low);
          long = stored;
          many = N.many ∙ ap length (sym same);
          noted =
              take-set-le count slots count (slot i) (omega arith) ∙ N.noted
              ∙ ap (map (λ (p : Place). slot p.slot)) (sym same);
        }

    note-held : (p : Page) → get_or B i none ≡ some p → Noting B (i + 1) (count + 1) (set slots count (slot i))
    unfolding records_from
    note-held p e =
        let more : records (take (i + 1) B) ≡ records (take i B) ++ (recorded i p ∷ []) =
        one_more ∙ ap (λ o. records (take i B) ++ records_from i (o ∷ [])) e in
        let last = take-suc-set slots count (slot i) (omega (arith, N.low, N.long)) in
        record {
          low = omega (arith, N.low);
          long = stored;
          many = omega (arith, N.many, ap length more, length-append (records (take i B)) (recorded i p ∷ []));
          noted =
              rw (add-one count)
              (last ∙ ap (λ (ns : List Slot). ns ++ (slot i ∷ [])) N.noted
              ∙ sym (map-append (λ (p : Place). slot p.slot) (records (take i B)) (recorded i p ∷ []))
              ∙ ap (map (λ (p : Place). slot p.slot)) (sym more));
        }

pub note-next :
    (rules : List Rule) (i count n : ℕ) (slots : List Slot) → i < length rules → i < document.slots
    → n ≡ min (get_or rules i past_rule).state 1 → Noting (book_of rules) i count slots
    → Noting (book_of rules) (i + 1) (count + n) (set slots count (slot i))
note-next rules i count n slots below room told N =
    let low : i < length (book_of rules) = omega (arith, book-length rules) in
    ⊎_elim
    (λ (z : (get_or rules i past_rule).state ≤ 0). (
    let zero-state : (get_or rules i past_rule).state ≡ 0 = omega arith in
    let e : count + n ≡ count = omega arith in
    rw e (note-free (book_of rules) i count slots low room N
    (book-at rules i ∙ page-free (get_or rules i past_rule) zero-state))))
    (λ (z : 0 < (get_or rules i past_rule).state). (
    let e : n ≡ 1 = omega arith in
    rw e (note-held (book_of rules) i count slots low room N _
    (book-at rules i ∙ page-there (get_or rules i past_rule) (λ i. omega arith)))))
    (le-or-lt (get_or rules i past_rule).state 0)

-- All slots are noted.
pub note-over :
    (B : Pages) (i count : ℕ) (slots : List Slot) → length B ≤ i → i ≤ document.slots → Noting B i count slots
    → HeldIn B (record { count = count; slots = slots })
note-over B i count slots over room N =
    let all = take_all i B over in
    record {
      few = omega (arith, N.low);
      count = N.many ∙ ap (λ (Q : Pages). length (records Q)) all;
      slots = N.noted ∙ ap (λ (Q : Pages). map (λ p. slot p.slot) (records Q)) all;
    }

-- A record is that of a page with a rule, behind s slots.
record RecordOf (s : ℕ) (B : Pages) (p : Place) : Type 0 where
  slot : ℕ
  page : Page
  there : get_or B slot none ≡ some page
  is : p ≡ recorded (s + slot) page

record_of :
    (s : ℕ) (B : Pages) (k : ℕ) (d : Place) → k < length (records_from s B)
    → RecordOf s B (get_or (records_from s B) k d)
unfolding records_from
record_of s [] k d l = absurd (omega arith)
record_of s (none ∷ B) k d l =
    let R = record_of (suc s) B k d l in
    let e : suc s + R.slot ≡ s + suc R.slot = omega arith in
    record {
      slot = suc R.slot;
      page = R.page;
      there = R.there;
      is = R.is ∙ ap (λ (n : ℕ). recorded n R.page) e;
    }
record_of s (some p ∷ B) zero d l =
    let e : s ≡ s + 0 = omega arith in
    record { slot = 0; page = p; there = refl; is = ap (λ (n : ℕ). recorded n p) e }
record_of s (some p ∷ B) (suc k) d l =
    let R = record_of (suc s) B k d (omega arith) in
    let e : suc s + R.slot ≡ s + suc R.slot = omega arith in
    record {
      slot = suc R.slot;
      page = R.page;
      there = R.there;
      is = R.is ∙ ap (λ (n : ℕ). recorded n R.page) e;
    }

-- What stands past the last record.
abbrev pub no_place : Place
no_place = record { slot = 0; head = 0; muted = false; positives = 0; negatives = 0; entries = [] }

-- Record k is that of the rule in the slot noted at k.
module _ (rules : List Rule) (h : HeldSlots) (H : HeldIn (book_of rules) h) (k : ℕ) (low : k < h.count) where
  abbrev pub noted_slot : ℕ
  noted_slot = (get_or h.slots k (slot 0)).0

  found : RecordOf 0 (book_of rules) (get_or (records (book_of rules)) k no_place)
  found = record_of 0 (book_of rules) k no_place (omega (arith, H.count))

  same-slot : noted_slot ≡ found.slot
  same-slot =
      let e : 0 + found.slot ≡ found.slot = omega arith in
      ap (λ (n : Slot). n.0) (sym (get_or-take h.count h.slots k (slot 0) low)
      ∙ ap (λ (ns : List Slot). get_or ns k (slot 0)) H.slots
      ∙ get_or-map (λ (p : Place). slot p.slot) (records (book_of rules)) k no_place)
      ∙ ap (λ (p : Place). p.slot) found.is
      ∙ e

  pub slot-below : noted_slot < length rules
  slot-below =
      omega (
        arith,
        same-slot,
        some_below (book_of rules) found.slot found.page found.there,
        book-length rules,
      )

  pub record-at :
      get_or (records (book_of rules)) k no_place ≡ recorded noted_slot (held_page (get_or rules noted_slot past_rule))
  record-at =
      let e : 0 + found.slot ≡ noted_slot = omega (arith, same-slot) in
      let there : get_or (book_of rules) noted_slot none ≡ some found.page = rw same-slot found.there in
      found.is
      ∙ ap₂ (λ (n : ℕ) (p : Page). recorded n p) e
      (page-of (get_or rules noted_slot past_rule) found.page (sym (book-at rules noted_slot) ∙ there))

-- The slots noted from one on, as many as are asked for.
module _ (h : HeldSlots) (from count : ℕ) where
  abbrev pub slots_from : List Slot
  slots_from = take (from + count - from) (drop from h.slots)

  pub slots-long : from + count ≤ length h.slots → length slots_from ≡ count
  slots-long l =
      omega (arith, length-take (from + count - from) (drop from h.slots), length-drop from h.slots)

  module _ (k : ℕ) (low : k < count) where
    pub slot-from : get_or slots_from k (slot 0) ≡ get_or h.slots (from + k) (slot 0)
    slot-from =
        get_or-take (from + count - from) (drop from h.slots) k (slot 0) (omega arith)
        ∙ get_or-drop from h.slots k (slot 0)

    pub slot-from-below :
        (rules : List Rule) → HeldIn (book_of rules) h → from + count ≤ h.count
        → (get_or slots_from k (slot 0)).0 < length rules
    slot-from-below rules H l =
        omega (arith, ap (λ (n : Slot). n.0) slot-from, slot-below rules h H (from + k) (omega arith))
