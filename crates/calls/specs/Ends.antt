-- The ways in which each call can end (specification 4.2 to 4.10): the table not sound (15), the first question
-- answered no, or accepted. Each says the answer, the table and every entry of the buffer. Assumes nothing.
use Rattle.std.specs.Prelude.{ℕ, ◌≤◌, ◌<◌, ◌≡◌, Bool, List, [], ◌++◌, length, get_or, drop, set, Ok, Err}
use Rattle.std.proofs.Math.Option.{none, some}
use Rattle.theory.specs.Lists.{Lists}
use Rattle.theory.specs.Rules.{Page, Pages, all, active, new_page, with_mark}
use Rattle.theory.specs.Rules as theory
use Rattle.theory.specs.Models.{AtomSet, Admissible}
use Rattle.theory.specs.Labels.{Labelled}
use Rattle.theory.specs.Labels as theory-labels
use Rattle.theory.specs.Explanations.{Justification, Consequence, Repercussion, Reason}
use Rattle.theory.specs.Questions.{Question, first_no, add_questions, slot_questions, atom_questions}
use Rattle.theory.specs.Questions.{replace_questions, reason_questions, lowest_free}
use Rattle.theory.specs.Limits.{document}
use Rattle.table.specs.declared.Slot.{Slot}
use Rattle.table.specs.declared.Table.{Table}
use Rattle.table.specs.Rules.{book_of}
use Rattle.table.specs.Words.{words, rules_of}
use Rattle.table.specs.Labels.{label_at}
use Rattle.table.specs.Clean.{empty_table}
use Rattle.table.specs.Sound.{Sound}
use Rattle.file_blocks.specs.Files.{file_of}
use Rattle.file_blocks.specs.Questions.{file_questions, pages_of}
use Rattle.refusals.specs.declared.Refusal.{Refusal}
use Rattle.refusals.specs.declared.Refusal.TheVariants.{BufferTooShort, TableUnsound}
use Rattle.calls.specs.Answers.{AddAnswer}
use Rattle.calls.specs.Answers.{ChangeAnswer}
use Rattle.calls.specs.Answers.{LabelAnswer}
use Rattle.calls.specs.Answers.{SpoilerAnswer}
use Rattle.calls.specs.Answers.{ListAnswer}
use Rattle.refusals.specs.Refusals.{number_of}
use Rattle.calls.specs.Answers.{tell_label, tell_page}

-- What a table holds: its rules, each with its mark.
abbrev pub held : Table → Pages
held t = book_of (rules_of t.words)

-- A table as the code has it: its numbers are as many as a table has.
pub record Sized (t : Table) : Type 0 where
  pub long : length t.words ≡ words

-- Add: 15, 1, 2, 3, 4, 5, 6, 7. Takes the lowest free slot, where the rule is kept with ascending lists, unmuted;
-- every other slot keeps its rule and its mark.
pub data AddEnds (t : Table) (r : theory.Rule) : AddAnswer → Table → Type 0 where
  unsound : (Sound t → ⊥) → AddEnds t r (Err TableUnsound) t
  refused :
      (f : Refusal) → Sound t → first_no (add_questions document (all (held t)) r) ≡ some (number_of f)
      → AddEnds t r (Err f) t
  accepted :
      (s : Slot) (u : Table) → Sound t → first_no (add_questions document (all (held t)) r) ≡ none
      → lowest_free (all (held t)) ≡ some s.0 → Sized u → held u ≡ set (held t) s.0 (some (new_page r)) → Sound u
      → AddEnds t r (Ok s) u

-- A call that changes a table and answers that it was accepted: 15, then its questions. Accepted, the slots hold
-- what is said after them.
pub data ChangeEnds (questions : List Question) (after : Pages) (t : Table) : ChangeAnswer → Table → Type 0 where
  unsound : (Sound t → ⊥) → ChangeEnds questions after t (Err TableUnsound) t
  refused :
      (f : Refusal) → Sound t → first_no questions ≡ some (number_of f)
      → ChangeEnds questions after t (Err f) t
  accepted :
      (u : Table) → Sound t → first_no questions ≡ none → Sized u → held u ≡ after → Sound u
      → ChangeEnds questions after t (Ok tt) u

-- Remove: 15, 8, 9. That slot becomes free; every other keeps its rule and its mark.
abbrev pub RemoveEnds : Table → ℕ → ChangeAnswer → Table → Type 0
RemoveEnds t s = ChangeEnds (slot_questions document (all (held t)) s) (set (held t) s none) t

-- Replace: 15, 8, 9, 1, 2, 3, 4, 5, 7. That slot has the new rule, kept with ascending lists, unmuted; every other
-- keeps its rule and its mark.
abbrev pub ReplaceEnds : Table → ℕ → theory.Rule → ChangeAnswer → Table → Type 0
ReplaceEnds t s r = ChangeEnds (replace_questions document (all (held t)) s r) (set (held t) s (some (new_page r))) t

-- Mute (request #108): 15, 8, 9. That slot keeps its rule and gets the mark; every other keeps its rule and its mark.
abbrev pub MuteEnds : Table → ℕ → Bool → ChangeAnswer → Table → Type 0
MuteEnds t s m = ChangeEnds (slot_questions document (all (held t)) s) (with_mark (held t) s m) t

-- Label: 15, 10. Answers absent, out, or in with depth and supporting slot.
pub data LabelEnds (t : Table) (a : ℕ) : LabelAnswer → Type 0 where
  unsound : (Sound t → ⊥) → LabelEnds t a (Err TableUnsound)
  refused :
      (f : Refusal) → Sound t → first_no (atom_questions document a) ≡ some (number_of f)
      → LabelEnds t a (Err f)
  accepted :
      (M : AtomSet) (l : theory-labels.Label) → Sound t → first_no (atom_questions document a) ≡ none
      → Admissible (active (held t)) M → Labelled (held t) M a l → LabelEnds t a (tell_label l)

-- Spoiler: 15, 8, 9. Answers muted for a muted rule, whatever its entries; of any other valid, or the entry that
-- spoils: its list, its place there and the atom.
pub data SpoilerEnds (t : Table) (s : ℕ) : SpoilerAnswer → Type 0 where
  unsound : (Sound t → ⊥) → SpoilerEnds t s (Err TableUnsound)
  refused :
      (f : Refusal) → Sound t → first_no (slot_questions document (all (held t)) s) ≡ some (number_of f)
      → SpoilerEnds t s (Err f)
  accepted :
      (M : AtomSet) (p : Page) → Sound t → first_no (slot_questions document (all (held t)) s) ≡ none
      → get_or (held t) s none ≡ some p → Admissible (active (held t)) M → SpoilerEnds t s (tell_page M p)

-- A call that writes a list: 15, its questions, and last 11. What is written stands from the start of the lent buffer,
-- and later entries stay. `Is M xs` says that xs is the list, in the model M.
pub data ListEnds (questions : List Question) (Is : AtomSet → List ℕ → Type 0) (t : Table) (before : List ℕ) :
    ListAnswer → List ℕ → Type 0 where
  unsound : (Sound t → ⊥) → ListEnds questions Is t before (Err TableUnsound) before
  refused :
      (f : Refusal) → Sound t → first_no questions ≡ some (number_of f)
      → ListEnds questions Is t before (Err f) before
  short :
      (M : AtomSet) (xs : List ℕ) → Sound t → first_no questions ≡ none → Admissible (active (held t)) M → Is M xs
      → length before < length xs → ListEnds questions Is t before (Err (BufferTooShort (length xs))) before
  accepted :
      (M : AtomSet) (xs : List ℕ) → Sound t → first_no questions ≡ none → Admissible (active (held t)) M → Is M xs
      → length xs ≤ length before
      → ListEnds questions Is t before (Ok (length xs)) (xs ++ drop (length xs) before)

-- Justifications, consequences, repercussions of an atom: 15, 10, 11. Each is written ascending, without repeats. The
-- first two are of all rules held, repercussions and reasons of the unmuted ones.
abbrev pub JustificationsEnd : Table → ℕ → List ℕ → ListAnswer → List ℕ → Type 0
JustificationsEnd t a = ListEnds (atom_questions document a) (λ M xs. Lists xs (Justification (all (held t)) a)) t

abbrev pub ConsequencesEnd : Table → ℕ → List ℕ → ListAnswer → List ℕ → Type 0
ConsequencesEnd t a = ListEnds (atom_questions document a) (λ M xs. Lists xs (Consequence (all (held t)) a)) t

abbrev pub RepercussionsEnd : Table → ℕ → List ℕ → ListAnswer → List ℕ → Type 0
RepercussionsEnd t a = ListEnds (atom_questions document a) (λ M xs. Lists xs (Repercussion (active (held t)) M a)) t

-- Reason of an atom: 15, 10, 12, 11.
abbrev pub ReasonEnds : Table → ℕ → List ℕ → ListAnswer → List ℕ → Type 0
ReasonEnds t a =
    ListEnds (reason_questions document a (label_at t.words a)) (λ M xs. Reason (active (held t)) M a xs) t

-- Save: 15, then 11. The file of the table stands from the start of the lent buffer, its length is answered, and later
-- bytes stay.
abbrev pub SaveEnds : Table → List ℕ → ListAnswer → List ℕ → Type 0
SaveEnds t = ListEnds [] (λ M bs. bs ≡ file_of (held t)) t

-- Load: 16, 17, 18, 19. It looks at no table, and a refusal hands back the empty one. The records of a file that is
-- accepted are the rules of the table, with their marks.
pub data LoadEnds (bytes : List ℕ) : ChangeAnswer → Table → Type 0 where
  refused :
      (f : Refusal) → first_no (file_questions document bytes) ≡ some (number_of f)
      → LoadEnds bytes (Err f) empty_table
  accepted :
      (u : Table) → first_no (file_questions document bytes) ≡ none → Sized u → held u ≡ pages_of document bytes
      → Sound u → LoadEnds bytes (Ok tt) u
