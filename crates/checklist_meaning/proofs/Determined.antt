-- Each contract of a checklist's call determines its result. Assumes nothing.
use Rattle.std.specs.Prelude.{Err}
use Prim.Native.Nat.{ℕ}
use mathlib.Core.Path.{◌≡◌, refl, sym, ◌∙◌, ap}
use mathlib.Core.List.{List}
use mathlib.Core.Option.{none, some, some-injective, none-ne-some}
use Rattle.theory.specs.Lists.{every}
use Rattle.theory.specs.Models.{AtomSet}
use Rattle.theory.specs.Questions.{first_no}
use Rattle.theory.proofs.Explanations.{lists-unique}
use Rattle.table.specs.declared.Table.{Table}
use Rattle.table.specs.Sound.{Sound}
use Rattle.refusals.specs.declared.Refusal.{Refusal}
use Rattle.refusals.specs.declared.Refusal.TheVariants.{TableUnsound}
use Rattle.calls.specs.Answers.{ChangeAnswer, ListAnswer}
use Rattle.refusals.specs.Refusals.{number_of}
use Rattle.calls.specs.Ends.{held}
use Rattle.calls.proofs.Determined.{refusal-unique, both, same-model, list-determined}
use Rattle.calls.proofs.OneTable.{table-unique}
use Rattle.checklist_frame.specs.Frame.{good, files_of}
use Rattle.checklist_meaning.specs.Questions.{FileCall, checklist_questions, mark_questions, open_questions}
use Rattle.checklist_meaning.specs.Ends.{OpenEnds, FileEnds, MissingEnds, CompleteAnswer, CompleteEnds, tell_complete}
use Rattle.checklist_meaning.specs.Ends.{unsound, refused, accepted}
use Rattle.checklist_meaning.proofs.Questions.{no-list}

pub open-determined :
    (n : ℕ) (x y : ChangeAnswer) (u v : Table) → OpenEnds n x u → OpenEnds n y v → (x ≡ y) × (u ≡ v)
unfolding every
open-determined n x y u v (refused f d) (refused g e) =
    (ap Err (refusal-unique (open_questions n) refl f g d e), refl)
open-determined n x y u v (refused f d) (accepted w e Z h U) = absurd (both _ _ d e)
open-determined n x y u v (accepted w d Z h U) (refused g e) = absurd (both _ _ e d)
open-determined n x y u v (accepted w d Z h U) (accepted z e Y i W) = (refl, table-unique w z Z Y U W (h ∙ sym i))

-- Where a sound table is no checklist, 15 is the refusal.
module _ (t : Table) (c : FileCall) (n : Sound t → files_of (held t) ≡ none) (S : Sound t) where
  is-15 : (f : Refusal) → first_no (mark_questions (held t) c) ≡ some (number_of f) → TableUnsound ≡ f
  unfolding every
  is-15 f e = refusal-unique (mark_questions (held t) c) refl TableUnsound f (no-list (held t) c (n S)) e

  not_yes : first_no (mark_questions (held t) c) ≡ none → ⊥
  not_yes e = both _ _ (no-list (held t) c (n S)) e

pub file-determined :
    (t : Table) (c : FileCall) (x y : ChangeAnswer) (u v : Table) → FileEnds t c x u → FileEnds t c y v
    → (x ≡ y) × (u ≡ v)
unfolding every
file-determined t c x y u v (unsound n) (unsound m) = (refl, refl)
file-determined t c x y u v (unsound n) (refused g S e) = (ap Err (is-15 t c n S g e), refl)
file-determined t c x y u v (unsound n) (accepted w S e Z h U) = absurd (not_yes t c n S e)
file-determined t c x y u v (refused f S d) (unsound n) = (ap Err (sym (is-15 t c n S f d)), refl)
file-determined t c x y u v (refused f S d) (refused g T e) =
    (ap Err (refusal-unique (mark_questions (held t) c) refl f g d e), refl)
file-determined t c x y u v (refused f S d) (accepted w T e Z h U) = absurd (both _ _ d e)
file-determined t c x y u v (accepted w S d Z h U) (unsound n) = absurd (not_yes t c n S d)
file-determined t c x y u v (accepted w S d Z h U) (refused g T e) = absurd (both _ _ e d)
file-determined t c x y u v (accepted w S d Z h U) (accepted z T e Y i W) =
    (refl, table-unique w z Z Y U W (h ∙ sym i))

pub missing-determined :
    (t : Table) (b : List ℕ) (x y : ListAnswer) (c d : List ℕ) → MissingEnds t b x c → MissingEnds t b y d
    → (x ≡ y) × (c ≡ d)
unfolding every
missing-determined t =
    list-determined (checklist_questions (held t)) refl _ (λ M xs ys X Y. lists-unique xs ys X Y) t

pub complete-determined : (t : Table) (x y : CompleteAnswer) → CompleteEnds t x → CompleteEnds t y → x ≡ y
complete-determined t x y (unsound n) (unsound m) = refl
complete-determined t x y (unsound n) (accepted M k S e A) = absurd (none-ne-some k (sym (n S) ∙ e))
complete-determined t x y (accepted M k S d A) (unsound n) = absurd (none-ne-some k (sym (n S) ∙ d))
complete-determined t x y (accepted M k S d A) (accepted N j T e B) =
    let m = same-model t S M N A B in
    let n : k ≡ j = some-injective k j (sym d ∙ e) in
    ap tell_complete (ap (λ (O : AtomSet). O (good k)) m ∙ ap (λ (i : ℕ). N (good i)) n)
