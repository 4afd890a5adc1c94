-- The records of a file, stored in their slots one after the other. Assumes nothing.
use Prim.Native.Nat.{ℕ, suc, ◌+◌, ◌-◌, ◌*◌, ◌/◌, ◌%◌, ◌≤◌, ◌<◌}
use native.Mathlib.Omega.{arith}
use native.Mathlib.Numerals.{add-one}
use mathlib.Core.Path.{◌≡◌, refl, sym, ◌∙◌, ap, subst}
use mathlib.Core.Logic.{⊎_elim}
use mathlib.Core.Bool.{Bool, true, false, not}
use mathlib.Core.List.{List, [], ◌∷◌, map}
use mathlib.Core.Option.{Option, none, some, some-injective}
use lib.Dec.{eqb, leb, ltb}
use lib.ListN.{length, get_or, take, drop, set, replicate, length-set, length-drop, length-replicate, drop_of_length-le}
use lib.ListN.{get_or-replicate, get_or-map, get_or-eq_default}
use lib.Seq.{ext_get_or, get_or-drop, get_or-set_same, get_or-set_other}
use Rattle.theory.specs.Lists.{◌∈◌, every}
use Rattle.theory.specs.Rules.{Ascending, Pages, rule_on}
use Rattle.theory.specs.Rules as theory
use Rattle.theory.specs.Questions.{first_no, rule_questions, is_some}
use Rattle.theory.specs.Limits.{document}
use Rattle.theory.proofs.Lists.{and_l, and_r, and-of, test, clash, unless, same_test, every-at, eqb-eq, eqb_of}
use Rattle.theory.proofs.Lists.{leb-le, le-leb, ltb-lt, lt-ltb, le-or-lt, entry_in}
use Rattle.table.specs.declared.Atom.{Atom}
use Rattle.table.specs.declared.Rule.{Rule}
use Rattle.table.specs.declared.Table.{Table}
use Rattle.table.specs.Rules.{book_of, no_atom, numbers, page_of, past_rule, rule_of, slot_of, state_of}
use Rattle.table.specs.Words.{rules_of, table_of, words}
use Rattle.table.specs.Clean.{free_rule, empty_table, WellFormed}
use Rattle.table.proofs.Members.{all_alike}
use Rattle.table.proofs.Entries.{numbers-take, numbers-drop}
use Rattle.table.proofs.Programs.{book-set, page-stated, slot-state}
use Rattle.table.proofs.Empty.{free-clean, free-book}
use Rattle.table.proofs.Words.{zero-rules}
use Rattle.file_blocks.specs.Words.{word_at}
use Rattle.file_blocks.specs.Places.{page_in_place, Place, place_numbered, rule_in}
use Rattle.file_blocks.specs.Files.{BLOCK, HEADER, PLACE, PLACES}
use Rattle.file_blocks.specs.Questions.{blocks, block_count, places_of, whole, numbered, ascends, right, recorded_on}
use Rattle.file_blocks.specs.Questions.{pages_with}
use Rattle.file_blocks.proofs.Written.{zeros-every}
use Rattle.file_blocks.proofs.Reading.{place_at, word-drop}
use Rattle.file_blocks.proofs.Records.{ascends-sorted}
use Rattle.file_loading.specs.Reading.{atom, slot_from, Stands, all_are_right, Recorded}

-- Atoms made of numbers have these numbers.
numbers-atoms : (xs : List ℕ) → numbers (map atom xs) ≡ xs
numbers-atoms [] = refl
numbers-atoms (x ∷ xs) = ap (λ (ys : List ℕ). x ∷ ys) (numbers-atoms xs)

-- The slot of a place holds the place's rule.
rule-from : (p : Place) → rule_of (slot_from p) ≡ rule_in p
rule-from p = λ i. record {
  head = p.head;
  positives = (sym (numbers-take p.positives (map atom p.entries))
      ∙ ap (take p.positives) (numbers-atoms p.entries)) i;
  negatives = (sym (numbers-take p.negatives (drop p.positives (map atom p.entries)))
      ∙ ap (take p.negatives) (sym (numbers-drop p.positives (map atom p.entries))
      ∙ ap (drop p.positives) (numbers-atoms p.entries))) i;
}

-- And its mark: the page of the slot is the place's.
pub page-from : (p : Place) → page_of (slot_from p) ≡ some (page_in_place p)
page-from p =
    page-stated (rule_of (slot_from p)) p.muted
    ∙ ap (λ (r : theory.Rule). some (record { rule = r; muted = p.muted })) (rule-from p)

slot-from : (p : Place) → slot_of (slot_from p) ≡ some (rule_in p)
slot-from p = ap rule_on (page-from p)

-- No question answered no.
none-asked : (o : Option ℕ) → not (is_some o) ≡ true → o ≡ none
none-asked none t = refl
none-asked (some k) t = absurd (clash t refl)

-- What question 19 asks of one record is what a sound table asks of its slot.
module _ (p : Place) where
  abbrev lists : ℕ
  lists = p.positives + p.negatives

  -- unused entries are zero, as the slot keeps them
  zero-filler :
      every (eqb 0) (drop lists p.entries) ≡ true → (i : ℕ) → lists ≤ i
      → get_or (map atom p.entries) i no_atom ≡ no_atom
  zero-filler t i l = get_or-map atom p.entries i 0 ∙ ap atom (⊎_elim
      (λ (u : length p.entries ≤ i). get_or-eq_default p.entries 0 u)
      (λ (u : i < length p.entries).
      (let k : lists + (i - lists) ≡ i = omega arith in
      let e = every-at (eqb 0) (drop lists p.entries) t (get_or p.entries i 0)
      (subst (λ (x : ℕ). x ∈ drop lists p.entries)
      (get_or-drop lists p.entries (i - lists) 0 ∙ ap (λ (j : ℕ). get_or p.entries j 0) k)
      (entry_in (drop lists p.entries) (i - lists) (omega (arith, length-drop lists p.entries)))) in
      sym (eqb-eq 0 (get_or p.entries i 0) e)))
      (le-or-lt (length p.entries) i))

  filler-zero :
      ((i : ℕ) → lists ≤ i → get_or (map atom p.entries) i no_atom ≡ no_atom)
      → every (eqb 0) (drop lists p.entries) ≡ true
  filler-zero f =
      let xs = drop lists p.entries in
      ap (every (eqb 0)) (ext_get_or 0 xs (replicate (length xs) 0) (sym (length-replicate {A = ℕ} (length xs) 0))
      (λ i l. get_or-drop lists p.entries i 0
      ∙ ap (λ (a : Atom). a.0) (sym (get_or-map atom p.entries (lists + i) 0) ∙ f (lists + i) (omega arith))
      ∙ sym (all_alike {A = ℕ} (length xs) i 0)))
      ∙ zeros-every (length xs)

  -- the slot is not free, and its state is one of the two of rules
  state-known : (m : Bool) → state_of m ≤ 2
  state-known true = omega arith
  state-known false = omega arith

  state-held : (m : Bool) → state_of m ≡ 0 → ⊥
  state-held true e = omega arith
  state-held false e = omega arith

  pub right-well : right document p ≡ true → WellFormed (slot_from p)
  unfolding right
  right-well t =
      let fits = and_l (leb lists document.entries) _ t in
      let t₂ = and_r (leb lists document.entries) _ t in
      let zeros = and_l (every (eqb 0) (drop lists p.entries)) _ t₂ in
      let t₃ = and_r (every (eqb 0) (drop lists p.entries)) _ t₂ in
      let asked = and_l (not (is_some (first_no (rule_questions document (rule_in p))))) _ t₃ in
      let t₄ = and_r (not (is_some (first_no (rule_questions document (rule_in p))))) _ t₃ in
      let one : (q : theory.Rule) → slot_of (slot_from p) ≡ some q → rule_in p ≡ q =
      λ q h. some-injective (rule_in p) q (sym (slot-from p) ∙ h) in
      record {
        clean = record {
          known = state-known p.muted;
          free = λ e. absurd (state-held p.muted e);
          fits = leb-le lists document.entries fits;
          filler = zero-filler zeros;
        };
        passes = λ q h. subst (λ (z : theory.Rule). first_no (rule_questions document z) ≡ none) (one q h)
            (none-asked (first_no (rule_questions document (rule_in p))) asked);
        ascending = λ q h. subst Ascending (one q h) (record {
          positives = (ascends-sorted (rule_in p).positives).0 (and_l (ascends 0 (rule_in p).positives) _ t₄);
          negatives = (ascends-sorted (rule_in p).negatives).0 (and_r (ascends 0 (rule_in p).positives) _ t₄);
        });
      }

  pub well-right : WellFormed (slot_from p) → right document p ≡ true
  unfolding right
  well-right W =
      let a = W.ascending (rule_in p) (slot-from p) in
      and-of (leb lists document.entries) _ (le-leb lists document.entries W.clean.fits)
      (and-of (every (eqb 0) (drop lists p.entries)) _ (filler-zero W.clean.filler)
      (and-of (not (is_some (first_no (rule_questions document (rule_in p))))) _
      (ap (λ (o : Option ℕ). not (is_some o)) (W.passes (rule_in p) (slot-from p)))
      (and-of (ascends 0 (rule_in p).positives) _ ((ascends-sorted (rule_in p).positives).1 a.positives)
      ((ascends-sorted (rule_in p).negatives).1 a.negatives))))

-- The test of all records, one after the other.
module _ (least : ℕ) (p : Place) (ps : List Place) where
  abbrev below : Place → Bool
  below q = ltb q.slot document.slots

  pub all-right-first : all_are_right least (p ∷ ps) ≡ true
      → Stands p.slot least (slot_from p) × (all_are_right (p.slot + 1) ps ≡ true)
  unfolding all_are_right ascends every
  all-right-first t =
      let slots = and_l (ascends least (map (λ q. q.slot) (p ∷ ps))) _ t in
      let u = and_r (ascends least (map (λ q. q.slot) (p ∷ ps))) _ t in
      let lows = and_l (every below (p ∷ ps)) _ u in
      let rights = and_r (every below (p ∷ ps)) _ u in (
        record {
          behind = leb-le least p.slot (and_l (leb least p.slot) _ slots);
          below = ltb-lt p.slot document.slots (and_l (below p) _ lows);
          well = right-well p (and_l (right document p) _ rights);
        },
        and-of (ascends (p.slot + 1) (map (λ q. q.slot) ps)) _
            (rw (add-one p.slot) (and_r (leb least p.slot) _ slots))
            (and-of (every below ps) _ (and_r (below p) _ lows) (and_r (right document p) _ rights)),
      )

  all-right-then :
      Stands p.slot least (slot_from p) → all_are_right (p.slot + 1) ps ≡ true → all_are_right least (p ∷ ps) ≡ true
  unfolding all_are_right ascends every
  all-right-then S t =
      let slots : ascends (suc p.slot) (map (λ q. q.slot) ps) ≡ true =
      rw (sym (add-one p.slot)) (and_l (ascends (p.slot + 1) (map (λ q. q.slot) ps)) _ t) in
      let u = and_r (ascends (p.slot + 1) (map (λ q. q.slot) ps)) _ t in
      and-of (ascends least (map (λ q. q.slot) (p ∷ ps))) _
      (and-of (leb least p.slot) _ (le-leb least p.slot S.behind) slots)
      (and-of (every below (p ∷ ps)) _
      (and-of (below p) _ (lt-ltb p.slot document.slots S.below) (and_l (every below ps) _ u))
      (and-of (right document p) _ (well-right p S.well) (and_r (every below ps) _ u)))

  pub all-right-next : Stands p.slot least (slot_from p) → all_are_right least (p ∷ ps) ≡ all_are_right (p.slot + 1) ps
  all-right-next S = same_test (all_are_right least (p ∷ ps)) (all_are_right (p.slot + 1) ps)
      (λ t. (all-right-first t).1) (λ t. all-right-then S t)

  pub all-right-not : (Stands p.slot least (slot_from p) → ⊥) → all_are_right least (p ∷ ps) ≡ false
  all-right-not n = unless (all_are_right least (p ∷ ps)) (λ t. n (all-right-first t).0)

-- The rules of the first k records, and what is left to ask of the others.
pub record Going (ps : List Place) (rules : List Rule) (least k : ℕ) : Type 0 where
  pub low : k ≤ length ps
  pub asked : all_are_right 0 ps ≡ all_are_right least (drop k ps)
  pub pages : pages_with document ps ≡ recorded_on document (book_of rules) (drop k ps)
  pub well : (s : ℕ) → s < document.slots → WellFormed (get_or rules s past_rule)
  pub long : length rules ≡ document.slots

pub free-well : WellFormed free_rule
free-well = record {
  clean = free-clean;
  passes = λ q h. absurd (slot-state free_rule q h refl);
  ascending = λ q h. absurd (slot-state free_rule q h refl);
}

going_start : (ps : List Place) → Going ps (replicate document.slots free_rule) 0 0
going_start ps = record {
  low = omega arith;
  asked = refl;
  pages = ap (λ (B : Pages). recorded_on document B ps) (sym (free-book document.slots));
  well = λ s l. subst WellFormed (sym (get_or-replicate document.slots s free_rule past_rule l)) free-well;
  long = length-replicate document.slots free_rule;
}

pub going-from : (ps : List Place) (t : Table) → t ≡ empty_table → Going ps (rules_of t.words) 0 0
going-from ps t e =
    subst (λ (rules : List Rule). Going ps rules 0 0)
    (sym (ap (λ (u : Table). rules_of u.words) e ∙ zero-rules words)) (going_start ps)

module _ (ps : List Place) (table : List ℕ) (least k : ℕ) (G : Going ps (rules_of table) least k) (p : Place)
    (here : drop k ps ≡ p ∷ drop (k + 1) ps) where
  abbrev rules : List Rule
  rules = rules_of table

  pub going-bad :
      (Stands p.slot least (slot_from p) → ⊥) → all_are_right 0 ps ≡ false
  going-bad n = G.asked ∙ ap (all_are_right least) here ∙ all-right-not least p (drop (k + 1) ps) n

  pub going_next :
      k < length ps → Stands p.slot least (slot_from p)
      → Going ps (set rules p.slot (slot_from p)) (p.slot + 1) (k + 1)
  unfolding recorded_on
  going_next l S = record {
    low = omega arith;
    asked = G.asked ∙ ap (all_are_right least) here ∙ all-right-next least p (drop (k + 1) ps) S;
    pages =
        G.pages ∙ ap (recorded_on document (book_of rules)) here
        ∙ ap (λ (B : Pages). recorded_on document B (drop (k + 1) ps))
        (ap (set (book_of rules) p.slot) (sym (page-from p)) ∙ sym (book-set rules p.slot (slot_from p)));
    well = λ s i. ⊎_elim
        (λ (u : eqb s p.slot ≡ true). (
        let e = eqb-eq s p.slot u in
        subst WellFormed (sym (ap (λ (z : ℕ). get_or (set rules p.slot (slot_from p)) z past_rule) e
        ∙ get_or-set_same rules p.slot (slot_from p) past_rule (omega (arith, G.long, S.below)))) S.well))
        (λ (u : eqb s p.slot ≡ false).
        subst WellFormed (sym (get_or-set_other rules p.slot s (slot_from p) past_rule
        (λ e. clash (eqb_of s p.slot e) u))) (G.well s i))
        (test (eqb s p.slot));
    long = length-set rules p.slot (slot_from p) ∙ G.long;
  }

pub going-all :
    (ps : List Place) (table : List ℕ) (least k : ℕ) → Going ps (rules_of table) least k → length ps ≤ k
    → Recorded ps (table_of table)
unfolding all_are_right ascends every recorded_on
going-all ps table least k G l =
    let over : drop k ps ≡ [] = drop_of_length-le ps {i = k} l in
    record {
      told = G.asked ∙ ap (all_are_right least) over;
      pages = sym (G.pages ∙ ap (recorded_on document (book_of (rules_of table))) over);
      well = G.well;
    }

-- One turn of the code's loop: the record that is read where it stands in the file.
module _ (bs : List ℕ) (w : whole bs ≡ true) (t : numbered (block_count bs) 0 (blocks bs) ≡ true) (table : List ℕ)
    (least k : ℕ) (G : Going (places_of (blocks bs)) (rules_of table) least k) (low : k < length (places_of (blocks bs)))
    (at slot : ℕ) (rule : Rule) (there : at ≡ k / PLACES * BLOCK + HEADER + k % PLACES * PLACE) (number : slot ≡ word_at bs at)
    (fields : rule ≡ slot_from (place_numbered (drop at bs))) where
  p : Place
  p = place_numbered (drop at bs)

  here : drop k (places_of (blocks bs)) ≡ p ∷ drop (k + 1) (places_of (blocks bs))
  unfolding p
  here =
      place_at bs w t k low
      ∙ ap (λ (j : ℕ). place_numbered (drop j bs) ∷ drop (k + 1) (places_of (blocks bs))) (sym there)

  same-slot : slot ≡ p.slot
  unfolding p
  same-slot = number ∙ ap (word_at bs) (let z : at ≡ at + 0 = omega arith in z) ∙ sym (word-drop at 0 bs)

  same-rule : rule ≡ slot_from p
  unfolding p
  same-rule = fields

  same-stands : Stands slot least rule → Stands p.slot least (slot_from p)
  same-stands S = subst (λ (r : Rule). Stands p.slot least r) same-rule
      (subst (λ (n : ℕ). Stands n least rule) same-slot S)

  back-stands : Stands p.slot least (slot_from p) → Stands slot least rule
  back-stands S = subst (λ (r : Rule). Stands slot least r) (sym same-rule)
      (subst (λ (n : ℕ). Stands n least (slot_from p)) (sym same-slot) S)

  pub read-bad :
      (Stands slot least rule → ⊥) → all_are_right 0 (places_of (blocks bs)) ≡ false
  read-bad n = going-bad (places_of (blocks bs)) table least k G p here (λ S. n (back-stands S))

  pub read_next :
      Stands slot least rule → (after : List ℕ) → rules_of after ≡ set (rules_of table) slot rule
      → Going (places_of (blocks bs)) (rules_of after) (slot + 1) (k + 1)
  read_next S after put =
      let rules = rules_of table in
      subst (λ (rs : List Rule). Going (places_of (blocks bs)) rs (slot + 1) (k + 1))
      (sym (put ∙ ap (set rules slot) same-rule))
      (subst (λ (n : ℕ). Going (places_of (blocks bs)) (set rules n (slot_from p)) (n + 1) (k + 1)) (sym same-slot)
      (going_next (places_of (blocks bs)) table least k G p here low (same-stands S)))
