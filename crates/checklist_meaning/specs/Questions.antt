-- The calls on a checklist, and the questions that they ask of the pages, by number (specification 8.5). Assumes
-- nothing.
use Rattle.std.specs.Prelude.{ℕ, Bool, not, ◌&&◌, ◌||◌, List, [], ◌∷◌, leb}
use Rattle.theory.specs.Rules.{Pages}
use Rattle.theory.specs.Questions.{Question, asks, is_some}
use Rattle.checklist_frame.specs.Frame.{most_files, sent, skipped, on_list, files_of, marked}

-- The calls on a file.
pub data FileCall : Type 0 where
  file_sent : ℕ → FileCall
  file_skipped : ℕ → FileCall
  skip_withdrawn : ℕ → FileCall

abbrev pub file : FileCall → ℕ
file (file_sent i) = i
file (file_skipped i) = i
file (skip_withdrawn i) = i

-- Sending and skipping ask that this mark does not stand already, withdrawing that it does.
abbrev pub allowed : Pages → FileCall → Bool
allowed B (file_sent i) = not (marked B (sent i))
allowed B (file_skipped i) = not (marked B (skipped i))
allowed B (skip_withdrawn i) = marked B (skipped i)

-- Every call on a checklist. 15: Are the rules those that the marks of 1 to 60 files give, and is none muted?  (A table
-- is asked before whether it is sound: see the contracts.)
abbrev pub checklist_questions : Pages → List Question
checklist_questions B = asks 15 (is_some (files_of B)) ∷ []

-- File sent, file skipped, skip withdrawn: 15, then 20: Is the file on the list?  22: Is the mark not there yet, or,
-- where it is withdrawn, is it there?
abbrev pub mark_questions : Pages → FileCall → List Question
mark_questions B c =
    asks 15 (is_some (files_of B)) ∷ asks 20 (on_list (files_of B) (file c)) ∷ asks 22 (allowed B c) ∷ []

-- Opening. 21: Are there 1 to 60 files?
abbrev pub open_questions : ℕ → List Question
open_questions n = asks 21 (leb 1 n && leb n most_files) ∷ []

-- Is the file unsent, or does a skip of it stand?
abbrev pub lacks : Pages → ℕ → Bool
lacks B i = not (marked B (sent i)) || marked B (skipped i)
