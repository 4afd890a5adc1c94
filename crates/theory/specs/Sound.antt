-- Question 15 (specification 3.4), as far as it speaks of rules and of what is kept of each slot. Assumes nothing.
use Rattle.std.specs.Prelude.{ℕ, ◌<◌, ◌≡◌, true, length}
use Rattle.std.proofs.Math.Option.{none}
use Rattle.theory.specs.Rules.{Rule, Held, Pages, all, active, Ascending, same}
use Rattle.theory.specs.Models.{AtomSet, Admissible}
use Rattle.theory.specs.Dependencies.{NegativeCycle}
use Rattle.theory.specs.Slots.{SlotDepth, slot_spoiler}
use Rattle.theory.specs.Limits.{Limits}
use Rattle.theory.specs.Questions.{first_no, rule_questions}

-- Sound rules: each held rule, muted or not, passes 1 to 4 and has ascending lists, no two are the same, and there is
-- no loop through a negation.
pub record SoundRules (limits : Limits) (B : Pages) : Type 0 where
  pub slots : length B ≡ limits.slots
  pub passes : (s : ℕ) (r : Rule) → Held (all B) s r → first_no (rule_questions limits r) ≡ none
  pub ascending : (s : ℕ) (r : Rule) → Held (all B) s r → Ascending r
  pub single : (s t : ℕ) (q r : Rule) → Held (all B) s q → Held (all B) t r → same q r ≡ true → s ≡ t
  pub acyclic : NegativeCycle (all B) → ⊥

-- What is kept is as it is defined, by the model of the unmuted rules: each slot that supports its head keeps the
-- head's depth, every other 0; each slot keeps the place of its spoiler. (A table adds: all that holds nothing stands
-- as in the empty table, and a mark is one of the two.)
pub record SoundSlots (B : Pages) (depth spoiler : ℕ → ℕ) : Type 0 where
  pub model : AtomSet
  pub admissible : Admissible (active B) model
  pub depths : (s : ℕ) → s < length B → SlotDepth B model s (depth s)
  pub spoilers : (s : ℕ) → s < length B → spoiler s ≡ slot_spoiler B model s
