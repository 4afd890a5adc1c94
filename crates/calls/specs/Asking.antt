-- The questions with which each call on an atom starts, 15 and 10, and each call on a slot, 15, 8 and 9. Assumes
-- nothing.
use Rattle.std.specs.Prelude.{ℕ, ◌≡◌, Ok, Err}
use Rattle.std.proofs.Math.Option.{none, some}
use Rattle.theory.specs.Rules.{all}
use Rattle.theory.specs.Questions.{first_no, atom_questions, slot_questions}
use Rattle.theory.specs.Limits.{document}
use Rattle.table.specs.declared.Table.{Table}
use Rattle.table.specs.Sound.{Sound}
use Rattle.refusals.specs.declared.Refusal.{Refusal}
use Rattle.refusals.specs.declared.Refusal.TheVariants.{TableUnsound}
use Rattle.calls.specs.Answers.{AskedAtom}
use Rattle.calls.specs.Answers.{AskedSlot}
use Rattle.refusals.specs.Refusals.{number_of}
use Rattle.calls.specs.Ends.{held}

-- The table is not sound (15), the first question of the atom is answered no, or that atom passes.
pub data AskAtomEnds (t : Table) (a : ℕ) : AskedAtom → Type 0 where
  unsound : (Sound t → ⊥) → AskAtomEnds t a (Err TableUnsound)
  refused :
      (f : Refusal) → Sound t → first_no (atom_questions document a) ≡ some (number_of f)
      → AskAtomEnds t a (Err f)
  passed :
      Sound t → first_no (atom_questions document a) ≡ none → AskAtomEnds t a (Ok (record { 0 = a }))

-- The same of a slot: the slot that passes holds a rule.
pub data AskSlotEnds (t : Table) (s : ℕ) : AskedSlot → Type 0 where
  unsound : (Sound t → ⊥) → AskSlotEnds t s (Err TableUnsound)
  refused :
      (f : Refusal) → Sound t → first_no (slot_questions document (all (held t)) s) ≡ some (number_of f)
      → AskSlotEnds t s (Err f)
  passed :
      Sound t → first_no (slot_questions document (all (held t)) s) ≡ none
      → AskSlotEnds t s (Ok (record { 0 = s }))
