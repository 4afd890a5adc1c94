-- What a call on a file asks of the pages, one question after another. Assumes nothing.
use Prim.Native.Nat.{ℕ}
use mathlib.Core.Path.{◌≡◌, refl, ◌∙◌, ap}
use mathlib.Core.Bool.{true, false}
use mathlib.Core.List.{[], ◌∷◌}
use mathlib.Core.Option.{Option, none, some}
use Rattle.theory.specs.Rules.{Pages}
use Rattle.theory.specs.Questions.{asks, first_no, is_some}
use Rattle.theory.proofs.Questions.{first_no-yes, first_no-here}
use Rattle.checklist_frame.specs.Frame.{on_list, files_of}
use Rattle.checklist_meaning.specs.Questions.{FileCall, file, allowed, mark_questions}

-- What a call on a file asks, one question after another.
module _ (B : Pages) (c : FileCall) where
  pub no-list : files_of B ≡ none → first_no (mark_questions B c) ≡ some 15
  no-list e = first_no-here (asks 15 _) _ (ap is_some e)

  module _ (n : ℕ) (e : files_of B ≡ some n) where
    pub off_list : on_list (some n) (file c) ≡ false → first_no (mark_questions B c) ≡ some 20
    off_list f =
        first_no-yes (asks 15 _) _ (ap is_some e)
        ∙ first_no-here (asks 20 _) _ (ap (λ (o : Option ℕ). on_list o (file c)) e ∙ f)

    module _ (l : on_list (some n) (file c) ≡ true) where
      on-list-asks : first_no (mark_questions B c) ≡ first_no (asks 22 (allowed B c) ∷ [])
      on-list-asks =
          first_no-yes (asks 15 _) _ (ap is_some e)
          ∙ first_no-yes (asks 20 _) _ (ap (λ (o : Option ℕ). on_list o (file c)) e ∙ l)

      pub not-allowed : allowed B c ≡ false → first_no (mark_questions B c) ≡ some 22
      not-allowed f = on-list-asks ∙ first_no-here (asks 22 _) [] f

      pub is-allowed : allowed B c ≡ true → first_no (mark_questions B c) ≡ none
      is-allowed t = on-list-asks ∙ first_no-yes (asks 22 _) [] t ∙ (unfold first_no in refl)
