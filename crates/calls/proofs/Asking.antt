-- What the answer to questions 15 and 10, or 15, 8 and 9, tells a call that starts with them. Assumes nothing.
use Rattle.std.specs.Prelude.{Ok, Err}
use Prim.Native.Nat.{ℕ, ◌≤◌, ◌<◌}
use native.Mathlib.Omega.{arith}
use mathlib.Core.Path.{◌≡◌, refl, sym, ◌∙◌, ap, subst}
use mathlib.Core.Bool.{Bool, true, false, not}
use mathlib.Core.List.{List, [], ◌∷◌}
use mathlib.Core.Option.{none, some}
use lib.Dec.{ltb}
use lib.ListN.{length, get_or, get_or-map}
use Rattle.theory.specs.Rules.{Pages, Program, all, rule_on, Held}
use Rattle.theory.specs.Rules as theory
use Rattle.theory.specs.Models.{AtomSet}
use Rattle.theory.specs.Questions.{Question, first_no, asks, atom_questions, slot_questions, is_some}
use Rattle.theory.specs.Limits.{document}
use Rattle.theory.proofs.Lists.{clash, ltb-lt, lt-ltb, unless, not-true, not-false}
use Rattle.theory.proofs.Pages.{all-at}
use Rattle.theory.proofs.Questions.{first_no-yes, first_no-here, first_no-none, held_below}
use Rattle.table.specs.declared.Atom.{Atom}
use Rattle.table.specs.declared.Rule.{Rule}
use Rattle.table.specs.declared.Slot.{Slot}
use Rattle.table.specs.declared.Table.{Table}
use Rattle.table.specs.Rules.{rule_of, page_of, slot_of}
use Rattle.table.specs.Words.{rules_of}
use Rattle.table.specs.Clean.{free_rule}
use Rattle.table.specs.Sound.{Sound}
use Rattle.table.proofs.Programs.{slot-free, slot_held}
use Rattle.refusals.specs.declared.Refusal.{Refusal}
use Rattle.calls.specs.Answers.{AskedAtom}
use Rattle.calls.specs.Answers.{AskedSlot}
use Rattle.calls.specs.Asking.{AskAtomEnds, AskSlotEnds, unsound, refused, passed}
use Rattle.calls.specs.Ends.{held, ChangeEnds, LabelEnds, ListEnds, SpoilerEnds}
use Rattle.calls.specs.Ends as contract

-- Question 10, where b tests it.
module _ (a : ℕ) (b : Bool) (told : b ≡ ltb a document.atoms) where
  pub atom-yes : not b ≡ false → first_no (atom_questions document a) ≡ none
  unfolding first_no
  atom-yes t = first_no-yes (asks 10 (ltb a document.atoms)) [] (sym told ∙ not-false b t)

  pub atom-no : not b ≡ true → first_no (atom_questions document a) ≡ some 10
  atom-no t = first_no-here (asks 10 (ltb a document.atoms)) [] (sym told ∙ not-true b t)

  pub atom-low : not b ≡ false → a < document.atoms
  atom-low t = ltb-lt a document.atoms (sym told ∙ not-false b t)

-- Both were answered yes of the atom x.
pub record Passes (t : Table) (a : ℕ) (x : Atom) : Type 0 where
  pub sound : Sound t
  pub yes : first_no (atom_questions document a) ≡ none
  pub atom : x.0 ≡ a

pub passes-low : (t : Table) (a : ℕ) (x : Atom) → Passes t a x → a < document.atoms
passes-low t a x Q = ltb-lt a document.atoms (first_no-none (asks 10 (ltb a document.atoms)) [] Q.yes).0

module _ (t : Table) (a : ℕ) (r : AskedAtom) (E : AskAtomEnds t a r) where
  pub ask-passed : (x : Atom) → r ≡ Ok x → Passes t a x
  ask-passed x e = go x (subst (AskAtomEnds t a) e E)
    where
      go : (x : Atom) → AskAtomEnds t a (Ok x) → Passes t a x
      go x (passed S q) = record { sound = S; yes = q; atom = refl }

  -- One was answered no: so ends a call that starts with these questions.
  module _ (f : Refusal) (e : r ≡ Err f) where
    pub label-refused : LabelEnds t a (Err f)
    label-refused = go f (subst (AskAtomEnds t a) e E)
      where
        go : (f : Refusal) → AskAtomEnds t a (Err f) → LabelEnds t a (Err f)
        go f (unsound n) = contract.unsound n
        go f (refused g S q) = contract.refused g S q

    pub list-refused :
        (questions : List Question) (Is : AtomSet → List ℕ → Type 0) (before : List ℕ)
        → ((k : ℕ) → first_no (atom_questions document a) ≡ some k → first_no questions ≡ some k)
        → ListEnds questions Is t before (Err f) before
    list-refused questions Is before more = go f (subst (AskAtomEnds t a) e E)
      where
        go : (f : Refusal) → AskAtomEnds t a (Err f) → ListEnds questions Is t before (Err f) before
        go f (unsound n) = contract.unsound n
        go f (refused g S q) = contract.refused g S (more _ q)

-- Questions 8 and 9, of the slot s, which holds r.
module _ (t : Table) (s : ℕ) where
  abbrev rule_asked : Question
  rule_asked = asks 9 (is_some (get_or (all (held t)) s none))

  pub slot-past : document.slots ≤ s → first_no (slot_questions document (all (held t)) s) ≡ some 8
  slot-past l =
      first_no-here (asks 8 (ltb s document.slots)) (rule_asked ∷ [])
      (unless _ (λ u. omega (arith, ltb-lt s document.slots u)))

  module _ (r : Rule) (e : r ≡ get_or (rules_of t.words) s free_rule) where
    pub page-is : get_or (held t) s none ≡ page_of r
    page-is = get_or-map page_of (rules_of t.words) s free_rule ∙ ap page_of (sym e)

    slot_is : get_or (all (held t)) s none ≡ slot_of r
    slot_is = all-at (held t) s ∙ ap rule_on page-is

    module _ (l : s < document.slots) where
      low-next : first_no (slot_questions document (all (held t)) s) ≡ first_no (rule_asked ∷ [])
      low-next = first_no-yes (asks 8 (ltb s document.slots)) (rule_asked ∷ []) (lt-ltb s document.slots l)

      pub slot-empty : r.state ≡ 0 → first_no (slot_questions document (all (held t)) s) ≡ some 9
      slot-empty z = low-next ∙ first_no-here rule_asked [] (ap is_some (slot_is ∙ slot-free r z))

      pub slot-yes : (r.state ≡ 0 → ⊥) → first_no (slot_questions document (all (held t)) s) ≡ none
      unfolding first_no
      slot-yes n = low-next ∙ first_no-yes rule_asked [] (ap is_some (slot_is ∙ slot_held r n))

    -- Where both were answered yes, s is a slot, and it holds this rule.
    module _ (yes : first_no (slot_questions document (all (held t)) s) ≡ none) where
      pub slot-holds : Held (all (held t)) s (rule_of r)
      slot-holds =
          let w = first_no-none (asks 8 (ltb s document.slots)) (rule_asked ∷ []) yes in
          let v = first_no-none rule_asked [] w.1 in
          slot_is ∙ slot_held r (λ z. clash v.0 (ap is_some (slot_is ∙ slot-free r z)))

-- Questions 8 and 9 are answered yes of a slot that holds a rule.
pub slot-asked :
    (P : Program) (s : ℕ) (r : theory.Rule) → length P ≡ document.slots → Held P s r
    → first_no (slot_questions document P s) ≡ none
unfolding first_no
slot-asked P s r e h =
    first_no-yes (asks 8 (ltb s document.slots)) (asks 9 (is_some (get_or P s none)) ∷ [])
    (lt-ltb s document.slots (omega (arith, held_below P s r h)))
    ∙ first_no-yes (asks 9 (is_some (get_or P s none))) [] (ap is_some h)

-- All three were answered yes of the slot x.
pub record PassesSlot (t : Table) (s : ℕ) (x : Slot) : Type 0 where
  pub sound : Sound t
  pub yes : first_no (slot_questions document (all (held t)) s) ≡ none
  pub slot : x.0 ≡ s

pub slot-low : (t : Table) (s : ℕ) (x : Slot) → PassesSlot t s x → s < document.slots
slot-low t s x Q =
    ltb-lt s document.slots
    (first_no-none (asks 8 (ltb s document.slots)) (rule_asked t s ∷ []) Q.yes).0

module _ (t : Table) (s : ℕ) (r : AskedSlot) (E : AskSlotEnds t s r) where
  pub slot-passed : (x : Slot) → r ≡ Ok x → PassesSlot t s x
  slot-passed x e = go x (subst (AskSlotEnds t s) e E)
    where
      go : (x : Slot) → AskSlotEnds t s (Ok x) → PassesSlot t s x
      go x (passed S q) = record { sound = S; yes = q; slot = refl }

  -- One was answered no: so ends a call that starts with these questions.
  module _ (f : Refusal) (e : r ≡ Err f) where
    pub change-refused :
        (questions : List Question) (after : Pages)
        → ((k : ℕ) → first_no (slot_questions document (all (held t)) s) ≡ some k → first_no questions ≡ some k)
        → ChangeEnds questions after t (Err f) t
    change-refused questions after more = go f (subst (AskSlotEnds t s) e E)
      where
        go : (f : Refusal) → AskSlotEnds t s (Err f) → ChangeEnds questions after t (Err f) t
        go f (unsound n) = contract.unsound n
        go f (refused g S q) = contract.refused g S (more _ q)

    pub spoiler-refused : SpoilerEnds t s (Err f)
    spoiler-refused = go f (subst (AskSlotEnds t s) e E)
      where
        go : (f : Refusal) → AskSlotEnds t s (Err f) → SpoilerEnds t s (Err f)
        go f (unsound n) = contract.unsound n
        go f (refused g S q) = contract.refused g S q
