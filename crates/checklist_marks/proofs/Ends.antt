-- How the calls on a file end, from what add, remove and label answered. Assumes nothing.
use Rattle.std.specs.Prelude.{Ok, Err}
use Rattle.table.specs.declared.Label.{Label}
use Prim.Native.Nat.{ℕ, ◌<◌}
use native.Mathlib.Omega.{arith}
use mathlib.Core.Path.{◌≡◌, refl, sym, ◌∙◌, ap, subst}
use mathlib.Core.Logic.{⊎_elim}
use mathlib.Core.Bool.{true, false, not}
use mathlib.Core.List.{[], ◌∷◌}
use mathlib.Core.Option.{Option, none, some, none-ne-some, some-injective}
use lib.ListN.{set}
use Rattle.theory.specs.Lists.{every, distinct, sort}
use Rattle.theory.specs.Rules.{all, new_page, Held, any_rule, same}
use Rattle.theory.specs.Questions.{asks, first_no, is_some, rule_questions, add_questions, slot_questions, with_added}
use Rattle.theory.specs.Questions.{lowest_free, put_in, stratified}
use Rattle.theory.specs.Limits.{document}
use Rattle.theory.proofs.Lists.{test, unless, lt-ltb, same_test}
use Rattle.theory.proofs.Sameness.{same-held}
use Rattle.theory.proofs.Pages.{all-length}
use Rattle.theory.proofs.Questions.{first_no-yes, first_no-here, held_below}
use Rattle.table.specs.declared.Atom.{Atom}
use Rattle.table.specs.declared.Slot.{Slot}
use Rattle.table.specs.declared.Table.{Table}
use Rattle.table.specs.Sound.{Sound}
use Rattle.refusals.specs.declared.Refusal.{Refusal}
use Rattle.refusals.specs.declared.Refusal.TheVariants.{FileNotListed, MarkUnchanged}
use Rattle.refusals.specs.Refusals.{number_of}
use Rattle.calls.specs.Answers.{AddAnswer, ChangeAnswer}
use Rattle.calls.specs.Ends as contract
use Rattle.calls.specs.Ends.{held, AddEnds}
use Rattle.checklist_frame.specs.declared.Mark.{Mark}
use Rattle.checklist_frame.specs.declared.Mark.TheVariants.{Sent, Skipped}
use Rattle.checklist_frame.specs.Frame.{Checklist, sent, skipped, fact, on_list, is_mark, files_of, marked}
use Rattle.checklist_frame.specs.Frame.{first_slot}
use Rattle.checklist_frame.specs.Parts.{mark_atom}
use Rattle.checklist_frame.proofs.Frames.{on-list-between, checklist-of, mark-below, sent-mark, skipped-mark}
use Rattle.checklist_meaning.specs.Questions.{FileCall, file_sent, file_skipped, skip_withdrawn, file, allowed}
use Rattle.checklist_meaning.specs.Book.{with_fact, marks_changed}
use Rattle.checklist_meaning.specs.Ends as ends
use Rattle.checklist_meaning.specs.Ends.{FileEnds}
use Rattle.checklist_meaning.proofs.Questions.{off_list, not-allowed, is-allowed}
use Rattle.checklist_meaning.proofs.Marks.{marked-at, marked-of, checklist-stratified, free-slot, added-checklist}
use Rattle.checklist_meaning.proofs.Marks.{rules-added, fact-slot}
use Rattle.checklist_meaning.proofs.Model.{mark-in, mark-support}
use Rattle.checklist_marks.specs.Parts.{FileAsked, FactAdded, taken, stands, other, FactRemoved}
use Rattle.checklist_marks.specs.Parts as parts
use Rattle.checklist.proofs.Labels.{Told, told-label, told-refused}
use Rattle.checklist.proofs.Labels.{in?, slot?, model_in, supporting-slot}

-- What add answered of a mark's fact, by the case that it is.
module _ (t : Table) (a : ℕ) {x : AddAnswer} {u : Table} (E : AddEnds t (fact a) x u) where
  pub mark-taken : {s : Slot} → x ≡ Ok s → FactAdded t a (Ok tt) u
  mark-taken e = taken (subst (λ (y : AddAnswer). AddEnds t (fact a) y u) e E)

  module _ {f : Refusal} (e : x ≡ Err f) (k : ℕ) (number : k ≡ number_of f) where
    pub mark-stands : k ≡ 5 → FactAdded t a (Err MarkUnchanged) u
    mark-stands five = stands (subst (λ (y : AddAnswer). AddEnds t (fact a) y u) e E) (sym number ∙ five)

    pub mark-other : (k ≡ 5 → ⊥) → FactAdded t a (Err f) u
    mark-other n = other (subst (λ (y : AddAnswer). AddEnds t (fact a) y u) e E) (λ q. n (number ∙ q))

-- A fact of an atom below the limit passes 1 to 4, and is kept as it is.
fact-passes : (a : ℕ) → a < document.atoms → first_no (rule_questions document (fact a)) ≡ none
unfolding every distinct
fact-passes a l =
    first_no-yes (asks 1 _) _ (lt-ltb a document.atoms l) ∙ first_no-yes (asks 2 _) _ refl
    ∙ first_no-yes (asks 3 _) _ refl ∙ first_no-yes (asks 4 _) _ refl ∙ (unfold first_no in refl)

-- A mark of a checklist that a sound table holds.
module _ (t : Table) (S : Sound t) (n a : ℕ) (C : Checklist (held t) n) (m : is_mark n a ≡ true) where
  low-mark : a < document.atoms
  low-mark = omega (arith, mark-below n a m, C.high)

  -- the table holds the same rule exactly if the mark stands
  pub same-marked : any_rule (same (fact a)) (all (held t)) ≡ marked (held t) a
  unfolding sort
  same-marked =
      let w = same-held document (all (held t)) (fact a) S.rules.ascending (fact-passes a low-mark) in
      same_test _ _
      (λ u. (let h = w.0 u in marked-of (all (held t)) a h.0 h.1))
      (λ u. w.1 (marked-at (all (held t)) a u))

  -- adding it asks nothing else: a slot is free, and no loop is closed
  add-asks :
      first_no (add_questions document (all (held t)) (fact a))
      ≡ first_no (asks 5 (not (any_rule (same (fact a)) (all (held t)))) ∷ [])
  unfolding every distinct
  add-asks =
      let w = free-slot (held t) n C S.rules.single S.rules.slots in
      let e : is_some (lowest_free (all (held t))) ≡ true = ap is_some w.1 in
      let acyclic : stratified (with_added (all (held t)) (fact a)) ≡ true =
      ap stratified (sym (rules-added (held t) w.0 a w.1))
      ∙ checklist-stratified (with_fact (held t) a) n (added-checklist (held t) w.0 a w.1 n C m) in
      first_no-yes (asks 1 _) _ (lt-ltb a document.atoms low-mark) ∙ first_no-yes (asks 2 _) _ refl
      ∙ first_no-yes (asks 3 _) _ refl ∙ first_no-yes (asks 4 _) _ refl
      ∙ ⊎_elim
      (λ (u : not (any_rule (same (fact a)) (all (held t))) ≡ true).
      first_no-yes (asks 5 _) _ u ∙ first_no-yes (asks 6 _) _ e ∙ first_no-yes (asks 7 _) [] acyclic
      ∙ sym (first_no-yes (asks 5 _) [] u))
      (λ (u : not (any_rule (same (fact a)) (all (held t))) ≡ false).
      first_no-here (asks 5 _) _ u ∙ sym (first_no-here (asks 5 _) [] u))
      (test (not (any_rule (same (fact a)) (all (held t)))))

  add-stands : marked (held t) a ≡ true → first_no (add_questions document (all (held t)) (fact a)) ≡ some 5
  add-stands u = add-asks ∙ first_no-here (asks 5 _) [] (ap not (same-marked ∙ u))

  add_free : marked (held t) a ≡ false → first_no (add_questions document (all (held t)) (fact a)) ≡ none
  add_free u = add-asks ∙ first_no-yes (asks 5 _) [] (ap not (same-marked ∙ u)) ∙ (unfold first_no in refl)

-- File sent and file skipped: a call on a file of the list that adds the fact of its mark. The addition can be refused
-- by 5 alone (`add-asks`), and is exactly where the mark stands: so 22 is 5 under another number.
module _
    (t : Table) (c : FileCall) (n a : ℕ) (e : files_of (held t) ≡ some n) (l : on_list (some n) (file c) ≡ true)
    (m : is_mark n a ≡ true) where
  C : Checklist (held t) n
  C = checklist-of (held t) n e

  -- an addition that is refused says that the mark stands
  not-unmarked :
      Sound t → {k : ℕ} → first_no (add_questions document (all (held t)) (fact a)) ≡ some k
      → marked (held t) a ≡ true
  not-unmarked S q = ⊎_elim
      (λ (y : marked (held t) a ≡ true). y)
      (λ (y : marked (held t) a ≡ false). absurd (none-ne-some _ (sym (add_free t S n a C m y) ∙ q)))
      (test (marked (held t) a))

  module _ (asks-mark : allowed (held t) c ≡ not (marked (held t) a)) where
    mark-added :
        marks_changed (held t) c ≡ with_fact (held t) a → {x : ChangeAnswer} {u : Table} → FactAdded t a x u
        → FileEnds t c x u
    mark-added adds (taken (contract.accepted s u S q k Z h U)) =
        let free : marked (held t) a ≡ false =
        unless _ (λ y. none-ne-some 5 (sym q ∙ add-stands t S n a C m y)) in
        ends.accepted u S (is-allowed (held t) c n e l (asks-mark ∙ ap not free)) Z
        (h ∙ sym (adds ∙ ap (λ (o : Option ℕ). put_in (held t) o (new_page (fact a))) k)) U
    mark-added adds (stands (contract.unsound un) five) = absurd (omega (arith, five))
    mark-added adds (stands (contract.refused f S q) five) =
        let there : marked (held t) a ≡ true = not-unmarked S q in
        ends.refused MarkUnchanged S (not-allowed (held t) c n e l (asks-mark ∙ ap not there))
    mark-added adds (other (contract.unsound un) not_five) = ends.unsound (λ S. absurd (un S))
    mark-added adds (other (contract.refused f S q) not_five) =
        absurd (not_five (some-injective _ _ (sym q ∙ add-stands t S n a C m (not-unmarked S q))))

  -- Skip withdrawn: a call on a file of the list that removes it. Its atom is in exactly if the mark stands, and then
  -- the slot that supports it holds its fact, and no other does.
  module _ (asks-mark : allowed (held t) c ≡ marked (held t) a) where
    withdrawn-out :
        {l : Label} → Told t a l → in? l ≡ false → FileEnds t c (Err MarkUnchanged) t
    withdrawn-out T f =
        ends.refused MarkUnchanged T.sound (not-allowed (held t) c n e l
        (asks-mark ∙ sym (mark-in (held t) n C T.model T.admissible a m) ∙ model_in t a T ∙ f))

    -- its fact stands in the slot that supports it, and a slot that holds a rule passes 8 and 9
    mark-slot :
        Sound t → {l : Label} → Told t a l → in? l ≡ true
        → Held (all (held t)) (slot? l) (fact a) × (n < slot? l)
    mark-slot S T y = mark-support (held t) n C T.model a _ m (supporting-slot t a T y)

    slot-asks :
        Sound t → (s : ℕ) → Held (all (held t)) s (fact a)
        → first_no (slot_questions document (all (held t)) s) ≡ none
    slot-asks S s h =
        let b = held_below (all (held t)) s (fact a) h in
        first_no-yes (asks 8 _) _ (lt-ltb s document.slots (omega (arith, all-length (held t), S.rules.slots)))
        ∙ first_no-yes (asks 9 _) [] (ap is_some h) ∙ (unfold first_no in refl)

    mark-removed :
        marks_changed (held t) c ≡ set (held t) (first_slot (fact a) (all (held t))) none
        → {x : ChangeAnswer} {u : Table} → FactRemoved t a x u → FileEnds t c x u
    mark-removed removes (parts.out E) = withdrawn-out (told-label t a E) refl
    mark-removed removes (parts.absent E) = withdrawn-out (told-label t a E) refl
    mark-removed removes (parts.refused E) =
        let w = told-refused t a (omega (arith, mark-below n a m, C.high)) E in
        subst (λ (g : Refusal). FileEnds t c (Err g) t) (sym w.0) (ends.unsound (λ S. absurd (w.1 S)))
    mark-removed removes (parts.removed {s = s} E (contract.unsound un)) = absurd (un (told-label t a E).sound)
    mark-removed removes (parts.removed {s = s} E (contract.refused f S q)) =
        let w = mark-slot S (told-label t a E) refl in
        absurd (none-ne-some _ (sym (slot-asks S s.0 w.0) ∙ q))
    mark-removed removes (parts.removed {s = s} E (contract.accepted u S q Z h U)) =
        let w = mark-slot S (told-label t a E) refl in
        ends.accepted u S (is-allowed (held t) c n e l (asks-mark ∙ marked-of (all (held t)) a s.0 w.0)) Z
        (h ∙ sym (removes
        ∙ ap (λ (k : ℕ). set (held t) k none) (fact-slot (all (held t)) S.rules.single a s.0 w.0))) U

-- A call on a file: 15 and 20 as they were asked, or what is done to the mark of a file on the list.
module _ (t : Table) (c : FileCall) (m : Mark) where
  pub asked-refused : {f : Refusal} → FileAsked t (file c) m (Err f) → FileEnds t c (Err f) t
  asked-refused (parts.unsound un) = ends.unsound un
  asked-refused (parts.off_list n S e l) = ends.refused FileNotListed S (off_list (held t) c n e l)

  asked-ends :
      (Done : ℕ → Type 0) {x : ChangeAnswer} {u : Table}
      → ((n : ℕ) → files_of (held t) ≡ some n → on_list (some n) (file c) ≡ true → Done (mark_atom m (file c))
      → FileEnds t c x u)
      → {a : Atom} → FileAsked t (file c) m (Ok a) → Done a.0 → FileEnds t c x u
  asked-ends Done f (parts.passed n a e l q) d = f n e l (subst Done q d)

-- File sent, file skipped, skip withdrawn.
module _ (t : Table) (i : ℕ) {a : Atom} {x : ChangeAnswer} {u : Table} where
  pub sent-ends : FileAsked t i Sent (Ok a) → FactAdded t a.0 x u → FileEnds t (file_sent i) x u
  sent-ends = asked-ends t (file_sent i) Sent (λ b. FactAdded t b x u) (λ n e l d. (
      let b = on-list-between n i l in
      mark-added t (file_sent i) n (sent i) e l (sent-mark n i b.0 b.1) refl refl d))

  pub skipped_ends : FileAsked t i Skipped (Ok a) → FactAdded t a.0 x u → FileEnds t (file_skipped i) x u
  skipped_ends = asked-ends t (file_skipped i) Skipped (λ b. FactAdded t b x u) (λ n e l d. (
      let b = on-list-between n i l in
      mark-added t (file_skipped i) n (skipped i) e l (skipped-mark n i b.0 b.1) refl refl d))

  pub withdrawn-ends : FileAsked t i Skipped (Ok a) → FactRemoved t a.0 x u → FileEnds t (skip_withdrawn i) x u
  withdrawn-ends = asked-ends t (skip_withdrawn i) Skipped (λ b. FactRemoved t b x u) (λ n e l d. (
      let b = on-list-between n i l in
      mark-removed t (skip_withdrawn i) n (skipped i) e l (skipped-mark n i b.0 b.1) refl refl d))
