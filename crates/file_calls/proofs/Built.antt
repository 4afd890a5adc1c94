-- A table for each accepted file: its rules are the file's pages, and its slots keep what those ask for. Assumes
-- nothing.
use Prim.Native.Nat.{ℕ, ◌+◌, ◌<◌}
use native.Mathlib.Omega.{arith}
use mathlib.Core.Path.{◌≡◌, refl, sym, ◌∙◌, ap, subst}
use mathlib.Core.Bool.{true}
use mathlib.Core.List.{List, [], ◌∷◌, map}
use mathlib.Core.Option.{Option, none, some}
use lib.ListN.{length, get_or, length-map, length-replicate, get_or-map}
use Rattle.theory.specs.Lists.{every}
use Rattle.theory.specs.Rules.{all, Page, Pages}
use Rattle.theory.specs.Dependencies.{NegativeCycle}
use Rattle.theory.specs.Questions.{first_no}
use Rattle.theory.specs.Book.{empty}
use Rattle.theory.specs.Limits.{document}
use Rattle.theory.proofs.Lists.{and_r}
use Rattle.theory.proofs.Questions.{first_no-none}
use Rattle.table.specs.declared.Table.{Table}
use Rattle.table.specs.declared.Rule as slot
use Rattle.table.specs.Rules.{book_of, page_of, past_rule}
use Rattle.table.specs.Words.{table_of}
use Rattle.table.specs.Clean.{free_rule, WellFormed}
use Rattle.table.specs.Sound.{Sound}
use Rattle.table.proofs.Entries.{there}
use Rattle.well_formed.specs.Slots.{Single}
use Rattle.from_rules.specs.Making.{WellFormedSlots}
use Rattle.from_rules.proofs.Tables.{TableFor, table-for}
use Rattle.file_blocks.specs.Places.{Place, recorded, records}
use Rattle.file_blocks.specs.Questions.{blocks, places_of, filled, right, records_right, file_questions, pages_of}
use Rattle.file_blocks.proofs.Bytes.{All, every-all}
use Rattle.file_blocks.proofs.Pages.{page-recorded}
use Rattle.file_blocks.proofs.RoundTrips.{pages-acyclic}
use Rattle.file_blocks.proofs.Sequences.{Eight, places-eight}
use Rattle.file_loading.specs.Reading.{atom, slot_from}
use Rattle.file_loading.proofs.Gathering.{page-from, right-well, free-well}
use Rattle.calls.specs.Ends.{held, Sized}
use Rattle.file_calls.proofs.Recorded.{split, all_right, same-records, once, all_held, pages-length}

-- The slot for a page.
abbrev pub slot_for : Option Page → slot.Rule
slot_for none = free_rule
slot_for (some p) = slot_from (recorded 0 p)

slot-for : (o : Option Page) → page_of (slot_for o) ≡ o
slot-for none = refl
slot-for (some p) = page-from (recorded 0 p) ∙ ap some (page-recorded 0 p)

book-for : (B : Pages) → book_of (map slot_for B) ≡ B
book-for [] = refl
book-for (o ∷ B) = λ i. slot-for o i ∷ book-for B i

-- An accepted file.
module _ (bs : List ℕ) (e : first_no (file_questions document bs) ≡ none) where
  abbrev pub ps : List Place
  ps = places_of (blocks bs)

  abbrev pub B : Pages
  B = pages_of document bs

  asked : records_right document ps ≡ true
  asked =
      let three = first_no-none _ _ (first_no-none _ _ (first_no-none _ _ e).1).1 in
      and_r (every filled (blocks bs)) _ (first_no-none _ _ three.1).0

  recorded-pages : records B ≡ ps
  recorded-pages = same-records ps (places-eight (blocks bs)) (split ps asked).0

  -- the rule of each page is right and has eight entries
  held-right : (s : ℕ) (p : Page) → get_or B s none ≡ some p → right document (recorded s p) ≡ true
  held-right s p h =
      let same : 0 + s ≡ s = omega arith in
      subst (λ (k : ℕ). right document (recorded k p) ≡ true) same (all_held (λ q. right document q ≡ true) 0 B
      (subst (All (λ q. right document q ≡ true)) (sym recorded-pages)
      (every-all (λ q. right document q ≡ true) (right document) (λ q t. t) ps
      (all_right ps (places-eight (blocks bs)) (split ps asked).0))) s p h)

  held-eight : (s : ℕ) (p : Page) → get_or B s none ≡ some p → Eight (recorded s p)
  held-eight s p h = all_held Eight 0 B (subst (All Eight) (sym recorded-pages) (places-eight (blocks bs))) s p h

  long : length B ≡ document.slots
  long = pages-length (empty document) ps ∙ length-replicate {A = Option Page} document.slots none

  acyclic : NegativeCycle (all B) → ⊥
  acyclic = pages-acyclic bs e

  abbrev rules : List slot.Rule
  rules = map slot_for B

  rules-long : length rules ≡ document.slots
  rules-long = length-map B slot_for ∙ long

  slot-at : (s : ℕ) → s < document.slots → get_or rules s past_rule ≡ slot_for (get_or B s none)
  slot-at s l =
      there rules s past_rule free_rule (omega (arith, rules-long)) ∙ get_or-map slot_for B s none

  entries-all : (s : ℕ) → s < document.slots → length (get_or rules s past_rule).entries ≡ document.entries
  entries-all s l =
      ap (λ (r : slot.Rule). length r.entries) (slot-at s l) ∙ eight-at (get_or B s none) refl
    where
      eight-at : (o : Option Page) → get_or B s none ≡ o → length (slot_for o).entries ≡ document.entries
      eight-at none h = refl
      eight-at (some p) h = length-map (recorded s p).entries atom ∙ held-eight s p h

  well : WellFormedSlots rules
  well s l = subst WellFormed (sym (slot-at s l)) (well-at (get_or B s none) refl)
    where
      well-at : (o : Option Page) → get_or B s none ≡ o → WellFormed (slot_for o)
      well-at none h = free-well
      well-at (some p) h = right-well (recorded s p) (held-right s p h)

  pub table : TableFor rules
  table =
      table-for rules rules-long entries-all well
      (subst (λ (C : Pages). Single (all C)) (sym (book-for B))
      (once ps (places-eight (blocks bs)) (split ps asked).0 (split ps asked).1))
      (subst (λ (C : Pages). NegativeCycle (all C) → ⊥) (sym (book-for B)) acyclic)

  abbrev pub built : Table
  built = table_of table.numbers

  pub built-held : held built ≡ B
  built-held = ap book_of table.holds ∙ book-for B

  pub built-sized : Sized built
  built-sized = record { long = table.long }

  pub built-sound : Sound built
  built-sound = table.sound
