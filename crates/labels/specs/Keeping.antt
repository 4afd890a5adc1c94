-- What the functions of the crate tell each other (private): slots that keep what is due. Assumes nothing.
use Rattle.std.specs.Prelude.{ℕ, ◌<◌, ◌≡◌, List, get_or, length}
use Rattle.std.proofs.Math.Option.{none}
use Rattle.theory.specs.Models.{AtomSet}
use Rattle.theory.specs.Slots.{slot_spoiler}
use Rattle.theory.specs.Certificate.{depth_due, given_below}
use Rattle.table.specs.Rules.{active_of, book_of}
use Rattle.table.specs.Words.{rules_of, depth_at, spoiler_at}

-- The depth due to slot s of these rules, by the model M and the depths d.
abbrev pub due_at : List ℕ → AtomSet → (ℕ → ℕ) → ℕ → ℕ
due_at table M d s =
    depth_due M d (given_below (active_of (rules_of table)) M d s) (get_or (active_of (rules_of table)) s none)

-- The rules stay, and each slot below n keeps what is due.
pub record KeptBelow (before : List ℕ) (M : AtomSet) (d : ℕ → ℕ) (n : ℕ) (after : List ℕ) : Type 0 where
  pub rules : rules_of after ≡ rules_of before
  pub long : length after ≡ length before
  pub depths : (s : ℕ) → s < n → depth_at after s ≡ due_at before M d s
  pub spoilers : (s : ℕ) → s < n → spoiler_at after s ≡ slot_spoiler (book_of (rules_of before)) M s
