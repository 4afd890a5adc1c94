-- Private: the slots that hold rules. Assumes nothing.
use Rattle.std.specs.Prelude.{ℕ, ◌≤◌, ◌<◌, ◌≡◌, List, map, length, get_or, take}
use Rattle.theory.specs.Limits.{document}
use Rattle.theory.specs.Rules.{Pages}
use Rattle.table.specs.declared.Rule.{Rule}
use Rattle.table.specs.declared.Slot.{Slot}
use Rattle.table.specs.Rules.{past_rule}
use Rattle.table.specs.Clean.{CleanRule}
use Rattle.file_blocks.specs.Places.{records}
use Rattle.file_records.specs.declared.HeldSlots.{HeldSlots}

-- A slot by its number.
abbrev pub slot : ℕ → Slot
slot n = record { 0 = n }

-- As many slots hold rules as there are records, and they are those of the records, in this order.
pub record HeldIn (B : Pages) (h : HeldSlots) : Type 0 where
  pub few : h.count ≤ document.slots
  pub count : h.count ≡ length (records B)
  pub slots : take h.count h.slots ≡ map (λ p. slot p.slot) (records B)

-- Every slot is clean, as in a sound table.
abbrev pub CleanSlots : List Rule → Type 0
CleanSlots rules = (s : ℕ) → s < document.slots → CleanRule (get_or rules s past_rule)
