-- How the calls that ask a checklist end: complete, and the list of files. Assumes nothing.
use Rattle.std.specs.Prelude.{Ok, Err}
use Prim.Native.Nat.{ℕ, ◌+◌, ◌≤◌, ◌<◌}
use native.Mathlib.Omega.{arith}
use mathlib.Core.Path.{◌≡◌, refl, sym, ◌∙◌, ap, ap₂, subst}
use mathlib.Core.Logic.{⊎_elim}
use mathlib.Core.Bool.{Bool, true, false, not, ◌&&◌, ◌||◌}
use mathlib.Core.List.{List, [], ◌∷◌}
use mathlib.Core.Option.{Option, none, some}
use lib.ListN.{length, set, replicate, length-set, length-replicate}
use lib.Seq.{get_or-set_same, get_or-set_other}
use Rattle.theory.specs.Questions.{asks, first_no, is_some}
use Rattle.theory.specs.Limits.{document}
use Rattle.theory.proofs.Lists.{unless, and_l, and_r, and-of, le-or-lt}
use Rattle.theory.proofs.Labels.{label_in}
use Rattle.theory.proofs.Slots.{labelled}
use Rattle.theory.proofs.Questions.{first_no-yes}
use Rattle.table.specs.declared.Label.{Label}
use Rattle.table.specs.declared.Table.{Table}
use Rattle.table.specs.declared.arrays.LabelArrays.{LabelArrays}
use Rattle.table.specs.Sets.{member, Flags}
use Rattle.table.specs.Arrays.{ArraysOf}
use Rattle.table.specs.Sound.{Sound}
use Rattle.table.proofs.Members.{all_alike}
use Rattle.refusals.specs.declared.Refusal.{Refusal}
use Rattle.calls.specs.Answers.{ListAnswer}
use Rattle.calls.specs.Ends as contract
use Rattle.calls.specs.Ends.{held, LabelEnds}
use Rattle.written_lists.specs.Lists.{below}
use Rattle.written_lists.specs.Written.{Written, short, fits}
use Rattle.written_lists.proofs.Lists.{flags-list}
use Rattle.checklist_frame.specs.Frame.{Checklist, sent, skipped, good, on_list, is_mark, files_of, marked}
use Rattle.checklist_meaning.specs.Questions.{lacks}
use Rattle.checklist_meaning.specs.Ends as ends
use Rattle.checklist_meaning.specs.Ends.{CompleteEnds, MissingEnds}
use Rattle.checklist.specs.Parts.{Lacking}
use Rattle.checklist_frame.proofs.Frames.{on-list-between, between-on-list, checklist-of, mark-below, sent-mark}
use Rattle.checklist_frame.proofs.Frames.{skipped-mark}
use Rattle.checklist_meaning.proofs.Model.{mark-in}
use Rattle.checklist.proofs.Labels.{told-label, told-refused, in?, model_in}

-- Complete is told as the label of the last file's good says: of the atom b, which is that good.
module _ (t : Table) (n : ℕ) (e : files_of (held t) ≡ some n) (b : ℕ) (last : b ≡ good n) where
  pub complete-told : {l : Label} → LabelEnds t b (Ok l) → {y : Bool} → in? l ≡ y → CompleteEnds t (Ok y)
  complete-told E q =
      let T = told-label t b E in
      subst (λ (y : Bool). CompleteEnds t (Ok y)) (ap T.model (sym last) ∙ model_in t b T ∙ q)
      (ends.accepted T.model n T.sound e T.admissible)

  pub complete-refused : {f : Refusal} → LabelEnds t b (Err f) → CompleteEnds t (Err f)
  complete-refused E =
      let w = told-refused t b (omega (arith, (checklist-of (held t) n e).high)) E in
      subst (λ (g : Refusal). CompleteEnds t (Err g)) (sym w.0) (ends.unsound (λ S. absurd (w.1 S)))

-- Which of n files lack something, by the atoms that are in: told for the files below i, and of no other number yet.
abbrev lacking_in : List Bool → ℕ → Bool
lacking_in atoms i = not (member atoms (sent i)) || member atoms (skipped i)

pub record LackingTo (atoms : List Bool) (n i : ℕ) (lacks : List Bool) : Type 0 where
  pub size : length lacks ≡ 61
  pub below : (j : ℕ) → j < i → member lacks j ≡ (on_list (some n) j && lacking_in atoms j)
  pub above : (j : ℕ) → i ≤ j → member lacks j ≡ false

pub lacking-start : (atoms : List Bool) (n : ℕ) → LackingTo atoms n 1 (replicate 61 false)
lacking-start atoms n = record {
  size = length-replicate 61 false;
  below = λ j l. all_alike 61 j false
      ∙ sym (unless _ (λ t. omega (arith, (on-list-between n j (and_l (on_list (some n) j) _ t)).0)));
  above = λ j l. all_alike 61 j false;
}

module _ (atoms : List Bool) (n i : ℕ) (lacks : List Bool) (L : LackingTo atoms n i lacks) where
  pub lacking-next :
      1 ≤ i → i ≤ n → n ≤ 60 → (v : Bool) → v ≡ lacking_in atoms i → LackingTo atoms n (i + 1) (set lacks i v)
  lacking-next low high most v e = record {
    size = length-set lacks i v ∙ L.size;
    below = λ j l. ⊎_elim
        (λ (k : i ≤ j). let z : j ≡ i = omega arith in
        subst (λ (k : ℕ). member (set lacks i v) k ≡ (on_list (some n) k && lacking_in atoms k)) (sym z)
        (get_or-set_same lacks i v false (omega (arith, L.size)) ∙ e
        ∙ sym (ap (λ (b : Bool). b && lacking_in atoms i) (between-on-list n i low high))))
        (λ (k : j < i). get_or-set_other lacks i j v false (λ z. omega arith) ∙ L.below j k)
        (le-or-lt i j);
    above = λ j l. get_or-set_other lacks i j v false (λ z. omega arith) ∙ L.above j (omega arith);
  }

  pub lacking-end : n < i → Lacking atoms n lacks
  lacking-end l = record {
    size = L.size;
    each = λ j. ⊎_elim
        (λ (k : i ≤ j). L.above j k
        ∙ sym (unless _ (λ t. omega (arith, (on-list-between n j (and_l (on_list (some n) j) _ t)).1))))
        (λ (k : j < i). L.below j k)
        (le-or-lt i j);
  }

-- The list of the files that lack something, written into a buffer.
module _ (t : Table) (S : Sound t) (n : ℕ) (e : files_of (held t) ≡ some n) where
  C : Checklist (held t) n
  C = checklist-of (held t) n e

  -- a mark's atom is kept as in exactly if the mark stands
  kept-mark :
      (k : LabelArrays) → ArraysOf t.words k → (a : ℕ) → is_mark n a ≡ true → member k.flags a ≡ marked (held t) a
  kept-mark k K a m =
      let low : a < document.atoms = omega (arith, mark-below n a m, C.high) in
      K.flags a low
      ∙ label_in (held t) S.kept.model S.kept.admissible a _ (labelled (held t) _ _ S.kept a)
      ∙ mark-in (held t) n C S.kept.model S.kept.admissible a m

  -- 15 is answered yes
  passes : first_no (asks 15 (is_some (files_of (held t))) ∷ []) ≡ none
  passes = first_no-yes (asks 15 _) [] (ap is_some e) ∙ (unfold first_no in refl)

  module _ (k : LabelArrays) (K : ArraysOf t.words k) (flags : List Bool) (L : Lacking k.flags n flags) where
    on-list-lacks : (i : ℕ) → on_list (some n) i ≡ true → lacking_in k.flags i ≡ lacks (held t) i
    on-list-lacks i l =
        let b = on-list-between n i l in
        ap₂ (λ (b c : Bool). not b || c) (kept-mark k K (sent i) (sent-mark n i b.0 b.1))
        (kept-mark k K (skipped i) (skipped-mark n i b.0 b.1))

    lacking-flags :
        Flags flags (λ i. (on_list (files_of (held t)) i ≡ true) × (lacks (held t) i ≡ true))
    lacking-flags i =
        let o : on_list (files_of (held t)) i ≡ on_list (some n) i = ap (λ (z : Option ℕ). on_list z i) e in (
          λ u. (let w = sym (L.each i) ∙ u in
              let l = and_l (on_list (some n) i) _ w in
              (o ∙ l, sym (on-list-lacks i l) ∙ and_r (on_list (some n) i) _ w)),
          λ w. (let l = sym o ∙ w.0 in L.each i ∙ and-of _ _ l (on-list-lacks i l ∙ w.1)),
        )

    pub missing-ends :
        {before after : List ℕ} {answer : ListAnswer}
        → Written (below (member flags) (length flags)) before answer after → MissingEnds t before answer after
    missing-ends (short l) =
        contract.short S.kept.model _ S passes S.kept.admissible (flags-list flags _ lacking-flags) l
    missing-ends (fits l) =
        contract.accepted S.kept.model _ S passes S.kept.admissible (flags-list flags _ lacking-flags) l
