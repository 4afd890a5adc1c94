-- Demand 2 (specification 9.2): after an addition, a removal, a replacement, a muting, a load or a call of a checklist
-- an atom is in if and only if it is in the admissible model of the unmuted rules now held; a rule that closes a loop
-- through a negation is refused by 7, and no other is. Request #102, of the calls. Assumes nothing.
use Rattle.std.specs.Prelude.{Ok, Err}
use Prim.Native.Nat.{ℕ, ◌<◌}
use native.Mathlib.Omega.{arith}
use mathlib.Core.Path.{◌≡◌, refl, sym, ◌∙◌, ap, subst}
use mathlib.Core.Bool.{Bool, true, false, not, ◌||◌}
use mathlib.Core.List.Memᴰ
use mathlib.Core.List.{List, [], ◌∷◌}
use mathlib.Core.Option.{none, some, some-injective, none-ne-some}
use lib.Dec.{eqb}
use lib.ListN.{take, drop}
use Rattle.theory.specs.Lists.{every}
use Rattle.theory.specs.Rules.{Rule, Program, Pages, all, active, Held, any_rule, same}
use Rattle.theory.specs.Models.{Admissible}
use Rattle.theory.specs.Dependencies.{NegativeCycle}
use Rattle.theory.specs.Labels.{Labelled}
use Rattle.theory.specs.Questions.{Question, asks, first_no, add_questions, replace_questions, stratified}
use Rattle.theory.specs.Questions.{is_in_label, with_added, with_replaced}
use Rattle.theory.specs.Limits.{document}
use Rattle.theory.proofs.Lists.{unless}
use Rattle.theory.proofs.Rules.{any_rule-of}
use Rattle.theory.proofs.Sameness.{same-iff}
use Rattle.theory.proofs.Removal.{none_left, ground-gone}
use Rattle.theory.proofs.Cycles.{found-cycle, cycle-found}
use Rattle.theory.proofs.Questions.{first_no-here, first_no-take, never-refused, passed-bounded}
use Rattle.theory.proofs.Pages.{all_set}
use Rattle.theory.proofs.Labels.{label_in}
use Rattle.theory.proofs.Slots.{labelled}
use Rattle.table.specs.declared.Table.{Table}
use Rattle.table.specs.Labels.{label_at}
use Rattle.table.specs.Clean.{empty_table}
use Rattle.table.specs.Sound.{Sound}
use Rattle.table.proofs.Empty.{empty-sound}
use Rattle.calls.specs.Answers.{AddAnswer, ChangeAnswer}
use Rattle.refusals.specs.declared.Refusal.{Refusal}
use Rattle.refusals.specs.declared.Refusal.TheVariants as refusal
use Rattle.refusals.specs.Refusals.{number_of}
use Rattle.calls.specs.Ends as contract
use Rattle.calls.specs.Ends.{held, AddEnds, ChangeEnds, RemoveEnds, ReplaceEnds, MuteEnds, LoadEnds}
use Rattle.refusals.proofs.Refusals.{refusal_of, refusal-number}
use Rattle.checklist_meaning.specs.Questions.{FileCall}
use Rattle.checklist_meaning.specs.Ends as list
use Rattle.checklist_meaning.specs.Ends.{OpenEnds, FileEnds}
use Rattle.history.specs.Claim.{InModel}
use Rattle.history.proofs.Sequence.{sound-model}

sound-in-model : (u : Table) → Sound u → InModel u
sound-in-model u S = record {
  model = S.kept.model;
  only = sound-model u S;
  exactly = λ a l. (
      let e = label_in (held u) S.kept.model S.kept.admissible a _ (labelled _ _ _ S.kept a) in
      ((λ t. sym e ∙ t), (λ t. e ∙ t)));
}

-- Demand 2, of an addition, of a removal, of a replacement, of a muting and of a call on a file, on a sound table; of a
-- load and of an opening, which look at none: a refusal hands back the empty table.
pub demand-2-add : (t u : Table) (r : Rule) (x : AddAnswer) → AddEnds t r x u → Sound t → InModel u
demand-2-add t u r x (contract.unsound n) S = absurd (n S)
demand-2-add t u r x (contract.refused f T e) S = sound-in-model t S
demand-2-add t u r x (contract.accepted s w T e l Z h U) S = sound-in-model w U

demand-2-change :
    {questions : List Question} {after : Pages} (t u : Table) (x : ChangeAnswer) → ChangeEnds questions after t x u
    → Sound t → InModel u
demand-2-change t u x (contract.unsound n) S = absurd (n S)
demand-2-change t u x (contract.refused f T e) S = sound-in-model t S
demand-2-change t u x (contract.accepted w T e Z h U) S = sound-in-model w U

pub demand-2-remove : (t u : Table) (s : ℕ) (x : ChangeAnswer) → RemoveEnds t s x u → Sound t → InModel u
demand-2-remove t u s x E S = demand-2-change t u x E S

pub demand-2-replace :
    (t u : Table) (s : ℕ) (r : Rule) (x : ChangeAnswer) → ReplaceEnds t s r x u → Sound t → InModel u
demand-2-replace t u s r x E S = demand-2-change t u x E S

pub demand-2-mute : (t u : Table) (s : ℕ) (m : Bool) (x : ChangeAnswer) → MuteEnds t s m x u → Sound t → InModel u
demand-2-mute t u s m x E S = demand-2-change t u x E S

pub demand-2-load : (bytes : List ℕ) (u : Table) (x : ChangeAnswer) → LoadEnds bytes x u → InModel u
demand-2-load bytes u x (contract.refused f e) = sound-in-model empty_table empty-sound
demand-2-load bytes u x (contract.accepted w e Z h U) = sound-in-model w U

pub demand-2-open : (n : ℕ) (u : Table) (x : ChangeAnswer) → OpenEnds n x u → InModel u
demand-2-open n u x (list.refused f e) = sound-in-model empty_table empty-sound
demand-2-open n u x (list.accepted w e Z h U) = sound-in-model w U

pub demand-2-file : (t u : Table) (c : FileCall) (x : ChangeAnswer) → FileEnds t c x u → Sound t → InModel u
demand-2-file t u c x (list.unsound n) S = sound-in-model t S
demand-2-file t u c x (list.refused f T e) S = sound-in-model t S
demand-2-file t u c x (list.accepted w T e Z h U) S = sound-in-model w U

-- The table with the rule, as it is kept; and in the place of a slot's.
abbrev program_with_rule : Table → Rule → Program
program_with_rule t r = with_added (all (held t)) r

abbrev with_new : Table → ℕ → Rule → Program
with_new t s r = with_replaced (all (held t)) s r

-- Every question numbered 7 is answered yes.
abbrev seven_yes : List Question → Bool
seven_yes = every (λ (q : Question). not (eqb q.number 7) || q.yes?)

-- Where 7 asks whether a program has no loop through a negation, and is the first answered no, it has one.
seven-cycle :
    (qs : List Question) (P : Program) → (stratified P ≡ true → seven_yes qs ≡ true) → first_no qs ≡ some 7
    → NegativeCycle P
seven-cycle qs P f e = found-cycle P (unless (stratified P) (λ y. never-refused 7 qs (f y) e))

-- And where it is asked last, it is the first answered no if it has one.
cycle-seven :
    (before : ℕ) (qs : List Question) (P : Program) → first_no (take before qs) ≡ none
    → drop before qs ≡ asks 7 (stratified P) ∷ [] → NegativeCycle P → first_no qs ≡ some 7
cycle-seven before qs P e last c =
    first_no-take before qs e ∙ ap first_no last
    ∙ first_no-here (asks 7 (stratified P)) [] (cycle-found P c)

-- A call on a sound table is refused by the first question answered no, and by no other: an addition, and a call that
-- answers whether it was accepted.

refusal-asked : (f : Refusal) (k : ℕ) → (k ≡ 11 → ⊥) → some (number_of f) ≡ some k → f ≡ refusal_of k
refusal-asked f k m e =
    let q : number_of f ≡ k = some-injective _ _ e in
    sym (refusal-number f (λ h. m (sym q ∙ h))) ∙ ap refusal_of q

add-asked :
    (t u : Table) (r : Rule) (f : Refusal) (x : AddAnswer) → x ≡ Err f → AddEnds t r x u → Sound t
    → first_no (add_questions document (all (held t)) r) ≡ some (number_of f)
add-asked t u r f x q (contract.unsound n) S = absurd (n S)
add-asked t u r f x q (contract.refused g T e) S =
    (let k : g ≡ f = cc in e ∙ ap (λ (h : Refusal). some (number_of h)) k)
add-asked t u r f x q (contract.accepted s w T e l Z h U) S = (let z : ◌≡◌ {A = ℕ} 0 1 = cc in absurd (omega arith))

add-refused :
    (t u : Table) (r : Rule) (x : AddAnswer) → AddEnds t r x u → Sound t → (k : ℕ) → (k ≡ 11 → ⊥)
    → first_no (add_questions document (all (held t)) r) ≡ some k → x ≡ Err (refusal_of k)
add-refused t u r x (contract.unsound n) S k m asked = absurd (n S)
add-refused t u r x (contract.refused f T e) S k m asked = ap Err (refusal-asked f k m (sym e ∙ asked))
add-refused t u r x (contract.accepted s w T e l Z h U) S k m asked = absurd (none-ne-some k (sym e ∙ asked))

module _ (questions : List Question) (after : Pages) (t : Table) where
  change-asked :
      (u : Table) (f : Refusal) (x : ChangeAnswer) → x ≡ Err f → ChangeEnds questions after t x u → Sound t
      → first_no questions ≡ some (number_of f)
  change-asked u f x q (contract.unsound n) S = absurd (n S)
  change-asked u f x q (contract.refused g T e) S =
      (let k : g ≡ f = cc in e ∙ ap (λ (h : Refusal). some (number_of h)) k)
  change-asked u f x q (contract.accepted w T e Z h U) S = (let z : ◌≡◌ {A = ℕ} 0 1 = cc in absurd (omega arith))

  change-refused-first :
      (u : Table) (x : ChangeAnswer) → ChangeEnds questions after t x u → Sound t → (k : ℕ) → (k ≡ 11 → ⊥)
      → first_no questions ≡ some k → x ≡ Err (refusal_of k)
  change-refused-first u x (contract.unsound n) S k m asked = absurd (n S)
  change-refused-first u x (contract.refused f T e) S k m asked =
      ap Err (refusal-asked f k m (sym e ∙ asked))
  change-refused-first u x (contract.accepted w T e Z h U) S k m asked = absurd (none-ne-some k (sym e ∙ asked))

-- Refused by 7: the rule closes a loop through a negation.

pub refused-7-cycle :
    (t u : Table) (r : Rule) → AddEnds t r (Err refusal.NegativeCycle) u → Sound t
    → NegativeCycle (program_with_rule t r)
refused-7-cycle t u r E S =
    seven-cycle (add_questions document (all (held t)) r) (program_with_rule t r) (λ y. unfold every in (rw (y, every)))
    (add-asked t u r refusal.NegativeCycle _ refl E S)

pub replace-refused-7-cycle :
    (t u : Table) (s : ℕ) (r : Rule) → ReplaceEnds t s r (Err refusal.NegativeCycle) u → Sound t
    → NegativeCycle (with_new t s r)
replace-refused-7-cycle t u s r E S =
    seven-cycle (replace_questions document (all (held t)) s r) (with_new t s r) (λ y. unfold every in (rw (y, every)))
    (change-asked _ _ t u refusal.NegativeCycle _ refl E S)

-- And where the questions before it, 1 to 6 of an addition, 8, 9 and 1 to 5 of a replacement, are answered yes, a rule
-- that closes one is refused by 7.

pub cycle-refused-7 :
    (t u : Table) (r : Rule) (x : AddAnswer) → AddEnds t r x u → Sound t
    → first_no (take 6 (add_questions document (all (held t)) r)) ≡ none → NegativeCycle (program_with_rule t r)
    → x ≡ Err refusal.NegativeCycle
cycle-refused-7 t u r x E S six c =
    add-refused t u r x E S 7 (λ e. omega arith)
    (cycle-seven 6 (add_questions document (all (held t)) r) (program_with_rule t r) six refl c)

pub replace-cycle-refused-7 :
    (t u : Table) (s : ℕ) (r : Rule) (x : ChangeAnswer) → ReplaceEnds t s r x u → Sound t
    → first_no (take 7 (replace_questions document (all (held t)) s r)) ≡ none → NegativeCycle (with_new t s r)
    → x ≡ Err refusal.NegativeCycle
replace-cycle-refused-7 t u s r x E S seven c =
    change-refused-first _ _ t u x E S 7 (λ e. omega arith)
    (cycle-seven 7 (replace_questions document (all (held t)) s r) (with_new t s r) seven refl c)

-- Request #102: where a slot holds the rule in whatever order, an addition of it that passes questions 1 to 4 is
-- refused by 5; and once that slot is removed, no slot holds it.

pub same-refused-5 :
    (t u : Table) (r : Rule) (x : AddAnswer) → AddEnds t r x u → Sound t
    → first_no (take 4 (add_questions document (all (held t)) r)) ≡ none → (s : ℕ) (q : Rule) → Held (all (held t)) s q
    → same r q ≡ true → x ≡ Err refusal.SameRule
same-refused-5 t u r x E S four s q h y =
    add-refused t u r x E S 5 (λ e. omega arith)
    (first_no-take 4 (add_questions document (all (held t)) r) four
    ∙ first_no-here _ _ (ap not (any_rule-of (same r) (all (held t)) s q h y)))

pub removed-none-left :
    (t u : Table) (s : ℕ) (y : ChangeAnswer) → RemoveEnds t s y u → y ≡ Ok tt → (q r : Rule)
    → Held (all (held t)) s q → same r q ≡ true → any_rule (same r) (all (held u)) ≡ false
removed-none-left t u s y (contract.unsound n) e q r h v = (let z : ◌≡◌ {A = ℕ} 0 1 = cc in absurd (omega arith))
removed-none-left t u s y (contract.refused f S a) e q r h v = (let z : ◌≡◌ {A = ℕ} 0 1 = cc in absurd (omega arith))
removed-none-left t u s y (contract.accepted w S a Z i U) e q r h v =
    ap (any_rule (same r)) (ap all i ∙ all_set (held t) s none) ∙ none_left document (held t) S.rules r s q h v

-- And where the removed rule was the only one of its head, in whatever order, that atom's label is not in any more.
pub removed-label-gone :
    (t u : Table) (s : ℕ) (y : ChangeAnswer) → RemoveEnds t s y u → y ≡ Ok tt → (q r : Rule)
    → Held (all (held t)) s q → same r q ≡ true
    → ((k : ℕ) (p : Rule) → Held (all (held t)) k p → p.head ≡ r.head → same r p ≡ true)
    → is_in_label (label_at u.words r.head) ≡ false
removed-label-gone t u s y (contract.unsound n) e q r h v only = (let z : ◌≡◌ {A = ℕ} 0 1 = cc in absurd (omega arith))
removed-label-gone t u s y (contract.refused f S a) e q r h v only =
    (let z : ◌≡◌ {A = ℕ} 0 1 = cc in absurd (omega arith))
removed-label-gone t u s y (contract.accepted w S a Z i U) e q r h v only =
    let L = U.kept in
    let low : r.head < document.atoms =
    subst (λ (x : ℕ). x < document.atoms) (sym ((same-iff r q).0 v).heads)
    (passed-bounded document (all (held t)) S.rules.passes s q h q.head (Memᴰ.head refl)) in
    ground-gone document (held t) S.rules r s q h v only L.model
    (subst (λ (B : Pages). Admissible (active B) L.model) i L.admissible) _
    (subst (λ (B : Pages). Labelled B L.model r.head (label_at w.words r.head)) i
    (labelled _ _ _ L r.head))
