-- What `replay` is claimed to do. Assumes nothing.
use Rattle.std.specs.Prelude.{ℕ, ◌+◌, ◌≡◌, List, ◌++◌, map, length, drop}
use Rattle.theory.specs.Book.{Answer, refused, slot, accepted}
use Rattle.history_replay.specs.declared.Replayed.{Replayed}
use Rattle.history.specs.Calls.{Call}
use Rattle.history.specs.Claim.{book_answers, History}
use Rattle.history_words.specs.Encoding.{calls_in}

-- An answer as a number: the slot taken; 65,536 for accepted; 65,536 and its number for a refusal.
abbrev pub encode : Answer → ℕ
encode (slot s) = s
encode accepted = 65536
encode (refused k) = 65536 + k

-- Replaying a list of calls from the empty table: the claim holds after it, the answers are told in their order from
-- the start of the lent buffer, and its later entries stay.
pub record Replays (ws files before : List ℕ) (r : Replayed) (after : List ℕ) : Type 0 where
  pub told : List Answer
  pub claim : History (calls_in ws files before) told r.table
  pub count : r.count ≡ length (calls_in ws files before)
  pub written : after ≡ map encode told ++ drop r.count before

-- The same of a list of calls that was written as words, with their files: exactly these calls were made, and the
-- book's answers told.
pub record ReplaysCalls (cs : List Call) (before : List ℕ) (r : Replayed) (after : List ℕ) : Type 0 where
  pub claim : History cs (book_answers cs) r.table
  pub count : r.count ≡ length cs
  pub told : after ≡ map encode (book_answers cs) ++ drop (length cs) before
