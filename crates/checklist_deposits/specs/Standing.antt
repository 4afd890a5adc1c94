-- What a list of calls on files and their answers says of a file, read off these alone. Assumes nothing.
use Rattle.std.specs.Prelude.{ℕ, Bool, true, false, not, ◌&&◌, ◌||◌, List, [], ◌∷◌, eqb}
use Rattle.theory.specs.Book.{Answer, refused, slot, accepted}
use Rattle.checklist_meaning.specs.Questions.{FileCall, file_sent, file_skipped, skip_withdrawn}

abbrev pub was_accepted : Answer → Bool
was_accepted (refused k) = false
was_accepted (slot s) = false
was_accepted accepted = true

-- Was file i sent, is a skip of it standing, after one more call? It is as before unless the call names the file.
abbrev pub sent_by : ℕ → FileCall → Bool → Bool
sent_by i (file_sent j) before = eqb i j || before
sent_by i (file_skipped j) before = before
sent_by i (skip_withdrawn j) before = before

abbrev pub standing_by : ℕ → FileCall → Bool → Bool
standing_by i (file_sent j) before = before
standing_by i (file_skipped j) before = eqb i j || before
standing_by i (skip_withdrawn j) before = not (eqb i j) && before

-- A call that was refused changes nothing.
abbrev pub unless_refused : Bool → Bool → Bool → Bool
unless_refused true after before = after
unless_refused false after before = before

unfoldable pub after_calls : (FileCall → Bool → Bool) → Bool → List FileCall → List Answer → Bool
after_calls by before [] xs = before
after_calls by before (c ∷ cs) [] = before
after_calls by before (c ∷ cs) (x ∷ xs) =
    after_calls by (unless_refused (was_accepted x) (by c before) before) cs xs

-- At first no file has been sent and no skip stands.
abbrev pub been_sent : ℕ → List FileCall → List Answer → Bool
been_sent i cs xs = after_calls (sent_by i) false cs xs

abbrev pub skip_standing : ℕ → List FileCall → List Answer → Bool
skip_standing i cs xs = after_calls (standing_by i) false cs xs
