-- Private: what the functions that read a file's records tell each other and `file_calls`. No contract of a call speaks
-- of it. Assumes nothing.
use Rattle.std.specs.Prelude.{ℕ, ◌<◌, ◌≤◌, ◌≡◌, Bool, true, false, ◌&&◌, Option, Some, None, List, map, ltb, get_or}
use Rattle.theory.specs.Lists.{every}
use Rattle.theory.specs.Limits.{document}
use Rattle.table.specs.declared.Atom.{Atom}
use Rattle.table.specs.declared.Rule.{Rule}
use Rattle.table.specs.declared.Table.{Table}
use Rattle.table.specs.Rules.{state_of, book_of, past_rule}
use Rattle.table.specs.Words.{rules_of}
use Rattle.table.specs.Clean.{WellFormed}
use Rattle.file_blocks.specs.Places.{Place}
use Rattle.file_blocks.specs.Questions.{ascends, right, pages_with}

-- An atom by its number; the slot that a place of a file records.
abbrev pub atom : ℕ → Atom
atom x = record { 0 = x }

abbrev pub slot_from : Place → Rule
slot_from p =
    record {
      state = state_of p.muted;
      head = atom p.head;
      positives = p.positives;
      negatives = p.negatives;
      entries = map atom p.entries;
    }

-- A record whose slot is none of those before it.
pub record Stands (slot least : ℕ) (rule : Rule) : Type 0 where
  pub behind : least ≤ slot
  pub below : slot < document.slots
  pub well : WellFormed rule

-- Do the slots of the records ascend, none below the first, is each below the number of slots, and is each record right
-- by itself?
unfoldable pub all_are_right : ℕ → List Place → Bool
all_are_right least ps =
    ascends least (map (λ p. p.slot) ps)
    && (every (λ p. ltb p.slot document.slots) ps && every (right document) ps)

-- A table that has the rules of these records with their marks. All are right.
pub record Recorded (ps : List Place) (t : Table) : Type 0 where
  pub told : all_are_right 0 ps ≡ true
  pub pages : book_of (rules_of t.words) ≡ pages_with document ps
  pub well : (s : ℕ) → s < document.slots → WellFormed (get_or (rules_of t.words) s past_rule)

-- Such a table, if all records are right.
abbrev pub ReadFrom : List Place → Option Table → Type 0
ReadFrom ps None = all_are_right 0 ps ≡ false
ReadFrom ps (Some t) = Recorded ps t
