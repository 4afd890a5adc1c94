-- What an answer of the call label says of a table that it was asked of. Assumes nothing.
use Rattle.std.specs.Prelude.{Ok, Err}
use Rattle.std.specs.Result.{is_ok}
use Rattle.table.specs.declared.Label.{Label}
use Rattle.table.specs.declared.Label.TheVariants.{Absent, Out, In}
use Prim.Native.Nat.{ℕ, ◌<◌}
use mathlib.Core.Path.{◌≡◌, refl, sym, ◌∙◌, ap, subst}
use mathlib.Core.Logic.{◌↔◌}
use mathlib.Core.Bool.{Bool, true, false, true≢false}
use mathlib.Core.Option.{some, none-ne-some}
use Rattle.theory.specs.Rules.{active}
use Rattle.theory.specs.Models.{AtomSet, Admissible}
use Rattle.theory.specs.Labels.{Labelled, is_in, absent, out, in_at, Supporting}
use Rattle.theory.specs.Labels as theory
use Rattle.theory.specs.Questions.{first_no, atom_questions, is_in_label}
use Rattle.theory.specs.Limits.{document}
use Rattle.theory.proofs.Lists.{lt-ltb}
use Rattle.theory.proofs.Labels.{label_in}
use Rattle.table.specs.declared.Table.{Table}
use Rattle.table.specs.Sound.{Sound}
use Rattle.refusals.specs.declared.Refusal.{Refusal}
use Rattle.refusals.specs.declared.Refusal.TheVariants.{TableUnsound}
use Rattle.calls.specs.Answers.{LabelAnswer}
use Rattle.calls.specs.Answers.{tell_label}
use Rattle.calls.specs.Ends as contract
use Rattle.calls.specs.Ends.{held, LabelEnds}
use Rattle.calls.proofs.Asking.{atom-yes}

-- Whether a label says that the atom is in, and by which slot.
abbrev pub in? : Label → Bool
in? Absent = false
in? Out = false
in? (In d s) = true

abbrev pub slot? : Label → ℕ
slot? Absent = 0
slot? Out = 0
slot? (In d s) = s.0

-- The label that an answer tells, and the refusal that it is.
abbrev label? : LabelAnswer → Label
label? (Ok l) = l
label? (Err f) = Absent

abbrev why : LabelAnswer → Refusal
why (Ok l) = TableUnsound
why (Err f) = f

label-told : (k : theory.Label) → in? (label? (tell_label k)) ≡ is_in_label k
label-told absent = refl
label-told out = refl
label-told (in_at d s) = refl

label-not-refused : (k : theory.Label) → is_ok (tell_label k) ≡ true
label-not-refused absent = refl
label-not-refused out = refl
label-not-refused (in_at d s) = refl

-- An answer that is no refusal: the table is sound, and this is the label in its model.
pub record Told (t : Table) (a : ℕ) (l : Label) : Type 0 where
  pub sound : Sound t
  pub model : AtomSet
  pub admissible : Admissible (active (held t)) model
  pub label : theory.Label
  pub told : tell_label label ≡ Ok l
  pub labelled : Labelled (held t) model a label

module _ (t : Table) (a : ℕ) where
  pub told-label : {l : Label} → LabelEnds t a (Ok l) → Told t a l
  told-label {l} E = go E refl
    where
      go : {x : LabelAnswer} → LabelEnds t a x → x ≡ Ok l → Told t a l
      go (contract.unsound n) e = absurd (true≢false (sym (ap is_ok e)))
      go (contract.refused f S q) e = absurd (true≢false (sym (ap is_ok e)))
      go (contract.accepted M k S q A L) e =
          record { sound = S; model = M; admissible = A; label = k; told = e; labelled = L }

  -- Of an atom that passes 10: a refusal says that the table is not sound, and no refusal that it is.
  module _ (l : a < document.atoms) where
    passes-10 : {k : ℕ} → first_no (atom_questions document a) ≡ some k → ⊥
    passes-10 q = none-ne-some _ (sym (atom-yes a true (sym (lt-ltb a document.atoms l)) refl) ∙ q)

    pub told-refused : {f : Refusal} → LabelEnds t a (Err f) → (f ≡ TableUnsound) × (Sound t → ⊥)
    told-refused {f} E = go E refl
      where
        go : {x : LabelAnswer} → LabelEnds t a x → x ≡ Err f → (f ≡ TableUnsound) × (Sound t → ⊥)
        go (contract.unsound n) e = (sym (ap why e), n)
        go (contract.refused g S q) e = absurd (passes-10 q)
        go (contract.accepted M k S q A L) e = absurd (true≢false (sym (label-not-refused k) ∙ ap is_ok e))

    pub told-sound : {x : LabelAnswer} → LabelEnds t a x → (is_ok x ≡ true) ↔ Sound t
    told-sound (contract.unsound n) = (λ e. absurd (true≢false (sym e)), λ S. absurd (n S))
    told-sound (contract.refused f S q) = absurd (passes-10 q)
    told-sound (contract.accepted M k S q A L) = (λ e. S, λ U. label-not-refused k)

  module _ {l : Label} (T : Told t a l) where
    pub model_in : T.model a ≡ in? l
    model_in =
        sym (label_in (held t) T.model T.admissible a T.label T.labelled) ∙ sym (label-told T.label)
        ∙ ap (λ x. in? (label? x)) T.told

    pub supporting-slot : in? l ≡ true → Supporting (active (held t)) T.model a (slot? l)
    supporting-slot e =
        subst (Supporting (active (held t)) T.model a) (ap (λ x. slot? (label? x)) T.told)
        (go T.label T.labelled (ap (λ x. in? (label? x)) T.told ∙ e))
      where
        go :
            (k : theory.Label) → Labelled (held t) T.model a k → in? (label? (tell_label k)) ≡ true
            → Supporting (active (held t)) T.model a (slot? (label? (tell_label k)))
        go absent L q = absurd (true≢false (sym q))
        go out L q = absurd (true≢false (sym q))
        go (in_at d s) (is_in m D S) q = S
