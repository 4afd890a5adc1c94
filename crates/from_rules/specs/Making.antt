-- A table made from its rules at once. Assumes nothing.
use Rattle.std.specs.Prelude.{ℕ, ◌<◌, ◌≡◌, Bool, true, false, List, get_or, length}
use Rattle.theory.specs.Dependencies.{NegativeCycle}
use Rattle.theory.specs.Limits.{document}
use Rattle.table.specs.declared.Rule.{Rule}
use Rattle.table.specs.Rules.{program_of, past_rule}
use Rattle.table.specs.Words.{words, rules_of, table_of}
use Rattle.table.specs.Clean.{WellFormed}
use Rattle.table.specs.Sound.{Sound}
use Rattle.well_formed.specs.Slots.{Single}

-- Every slot is one that a sound table can have.
abbrev pub WellFormedSlots : List Rule → Type 0
WellFormedSlots rules = (s : ℕ) → s < document.slots → WellFormed (get_or rules s past_rule)

-- The table of such rules, which is sound; there is none if a rule stands in two slots or if there is a negative cycle,
-- and then the numbers stay as they are.
pub data Made (before : List ℕ) : List ℕ → Bool → Type 0 where
  twice : (Single (program_of (rules_of before)) → ⊥) → Made before before false
  cyclic :
      Single (program_of (rules_of before)) → NegativeCycle (program_of (rules_of before)) → Made before before false
  made :
      (after : List ℕ) → Single (program_of (rules_of before)) → (NegativeCycle (program_of (rules_of before)) → ⊥)
      → length after ≡ words → rules_of after ≡ rules_of before → Sound (table_of after) → Made before after true
