-- Rounds over n slots that walk upwards or downwards. Assumes nothing.
use Rattle.std.specs.Prelude.{ℕ, ◌-◌, Bool, true, false}

-- The slot to which a round comes after i others.
unfoldable pub slot_at : ℕ → Bool → ℕ → ℕ
slot_at n false i = i
slot_at n true i = n - 1 - i
