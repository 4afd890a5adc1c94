-- Request #106 over sequences (specification 9.7): a checklist was opened for n files, the opening was accepted, and
-- then calls on files were made, whichever they were. What the table shows is read off these calls and their answers.
-- Assumes nothing.
use Rattle.std.specs.Prelude.{ℕ, ◌≤◌, ◌≡◌, ◌⊎◌, ◌↔◌, true, false, List, ◌∷◌, ◌++◌, map, length, drop, Ok}
use Rattle.std.proofs.Math.Option.{some}
use Rattle.theory.specs.Lists.{Lists}
use Rattle.theory.specs.Rules.{active}
use Rattle.theory.specs.Models.{AtomSet, Admissible}
use Rattle.theory.specs.Book.{Answer}
use Rattle.theory.specs.Limits.{document}
use Rattle.table.specs.declared.Table.{Table}
use Rattle.table.specs.Sound.{Sound}
use Rattle.calls.specs.Answers.{ListAnswer}
use Rattle.calls.specs.Ends.{held}
use Rattle.checklist_frame.specs.Frame.{sent, skipped, good, files_of, marked}
use Rattle.checklist_meaning.specs.Questions.{FileCall}
use Rattle.checklist_meaning.specs.Book.{opening, of_file, opened}
use Rattle.checklist_meaning.specs.Ends.{CompleteAnswer, MissingEnds, CompleteEnds}
use Rattle.checklist_deposits.specs.Standing.{been_sent, skip_standing}
use Rattle.history.specs.Calls.{Call, checklist, calls_answers, calls_after}

-- Calls on files; the same after the opening of a checklist for n files.
abbrev pub file_calls : List FileCall → List Call
file_calls cs = map (λ c. checklist (of_file c)) cs

abbrev pub deposit_calls : ℕ → List FileCall → List Call
deposit_calls n cs = checklist (opening n) ∷ file_calls cs

-- By the calls cs with the answers xs: every file has been sent, and none has a skip standing.
abbrev pub NoneMissing : ℕ → List FileCall → List Answer → Type 0
NoneMissing n cs xs = (i : ℕ) → 1 ≤ i → i ≤ n → (been_sent i cs xs ≡ true) × (skip_standing i cs xs ≡ false)

-- And i is a file that has not been sent, or that has a skip standing.
abbrev pub MissingFile : ℕ → List FileCall → List Answer → ℕ → Type 0
MissingFile n cs xs i = (1 ≤ i) × (i ≤ n) × ((been_sent i cs xs ≡ false) ⊎ (skip_standing i cs xs ≡ true))

-- After the opening for n files, accepted, and the calls cs, with the answers xs, the table is u.
pub record Deposit (n : ℕ) (cs : List FileCall) (xs : List Answer) (u : Table) : Type 0 where
  -- each answer is the book's, and each slot holds what the page of its number holds
  pub answered : xs ≡ calls_answers document (opened document n) (file_calls cs)
  pub slots : held u ≡ calls_after document (opened document n) (file_calls cs)
  pub sound : Sound u
  -- the table is a checklist of n files still
  pub files : files_of (held u) ≡ some n
  -- its marks: the files that have been sent, and those that have a skip standing
  pub sent_marks : (i : ℕ) → 1 ≤ i → i ≤ n → marked (held u) (sent i) ≡ been_sent i cs xs
  pub skip_marks : (i : ℕ) → 1 ≤ i → i ≤ n → marked (held u) (skipped i) ≡ skip_standing i cs xs
  -- complete is in if and only if every file has been sent and none has a skip standing; and so it is answered
  pub complete : (M : AtomSet) → Admissible (active (held u)) M → (M (good n) ≡ true) ↔ NoneMissing n cs xs
  pub complete_answer : (x : CompleteAnswer) → CompleteEnds u x → (x ≡ Ok true) ↔ NoneMissing n cs xs
  -- the list of files is empty if and only if every file has been sent and none has a skip standing; what it writes are
  -- exactly the files that have not been sent or have a skip standing, ascending
  pub empty_answer :
      (before : List ℕ) (x : ListAnswer) (after : List ℕ) → MissingEnds u before x after
      → (x ≡ Ok 0) ↔ NoneMissing n cs xs
  pub list_answer :
      (before after : List ℕ) (k : ℕ) → MissingEnds u before (Ok k) after
      → (is : List ℕ) × (length is ≡ k) × (after ≡ is ++ drop k before) × Lists is (MissingFile n cs xs)
