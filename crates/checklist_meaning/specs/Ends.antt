-- The ways in which each call of a checklist can end (specification 8.5 and 8.6). Each says the answer, the table and
-- every entry of the buffer. Assumes nothing.
use Rattle.std.specs.Prelude.{ℕ, ◌≡◌, Bool, true, List, Result, Ok, Err}
use Rattle.std.proofs.Math.Option.{none, some}
use Rattle.theory.specs.Lists.{Lists}
use Rattle.theory.specs.Rules.{active}
use Rattle.theory.specs.Models.{AtomSet, Admissible}
use Rattle.theory.specs.Questions.{first_no}
use Rattle.theory.specs.Limits.{document}
use Rattle.table.specs.declared.Table.{Table}
use Rattle.table.specs.Clean.{empty_table}
use Rattle.table.specs.Sound.{Sound}
use Rattle.refusals.specs.declared.Refusal.{Refusal}
use Rattle.refusals.specs.declared.Refusal.TheVariants.{TableUnsound}
use Rattle.calls.specs.Answers.{ChangeAnswer, ListAnswer}
use Rattle.refusals.specs.Refusals.{number_of}
use Rattle.calls.specs.Ends.{held, Sized, ListEnds}
use Rattle.checklist_frame.specs.Frame.{good, on_list, files_of}
use Rattle.checklist_meaning.specs.Questions.{FileCall, checklist_questions, mark_questions, open_questions}
use Rattle.checklist_meaning.specs.Questions.{lacks}
use Rattle.checklist_meaning.specs.Book.{marks_changed, opened}

-- Open: 21. It looks at no table, and a refusal hands back the empty one.
pub data OpenEnds (n : ℕ) : ChangeAnswer → Table → Type 0 where
  refused :
      (f : Refusal) → first_no (open_questions n) ≡ some (number_of f) → OpenEnds n (Err f) empty_table
  accepted :
      (u : Table) → first_no (open_questions n) ≡ none → Sized u → held u ≡ opened document n → Sound u
      → OpenEnds n (Ok tt) u

-- File sent, file skipped, skip withdrawn: 15, 20, 22. A table that is not sound, or else is no checklist, as where a
-- rule is muted, is refused by 15 alike.
pub data FileEnds (t : Table) (c : FileCall) : ChangeAnswer → Table → Type 0 where
  unsound : (Sound t → files_of (held t) ≡ none) → FileEnds t c (Err TableUnsound) t
  refused :
      (f : Refusal) → Sound t → first_no (mark_questions (held t) c) ≡ some (number_of f)
      → FileEnds t c (Err f) t
  accepted :
      (u : Table) → Sound t → first_no (mark_questions (held t) c) ≡ none → Sized u → held u ≡ marks_changed (held t) c
      → Sound u → FileEnds t c (Ok tt) u

-- The files of the list that are unsent or have a skip standing: 15, 11. Written and counted as justifications are.
abbrev pub MissingEnds : Table → List ℕ → ListAnswer → List ℕ → Type 0
MissingEnds t =
    ListEnds (checklist_questions (held t))
    (λ M xs. Lists xs (λ i. (on_list (files_of (held t)) i ≡ true) × (lacks (held t) i ≡ true))) t

-- Complete answers whether every file is good, or the refusal.
abbrev pub CompleteAnswer : Type 0
CompleteAnswer = Result Bool Refusal

-- Complete is the last file's good, in or not: 15, of a table that is not sound or else is no checklist.
abbrev pub tell_complete : Bool → CompleteAnswer
tell_complete complete = Ok complete

pub data CompleteEnds (t : Table) : CompleteAnswer → Type 0 where
  unsound : (Sound t → files_of (held t) ≡ none) → CompleteEnds t (Err TableUnsound)
  accepted :
      (M : AtomSet) (n : ℕ) → Sound t → files_of (held t) ≡ some n → Admissible (active (held t)) M
      → CompleteEnds t (tell_complete (M (good n)))
