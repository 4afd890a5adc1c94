-- What is kept of each slot, found anew for the rules held. Assumes nothing.
use Rattle.std.specs.Prelude.{ℕ, ◌≡◌, Bool, true, false, List, length}
use Rattle.theory.specs.Dependencies.{NegativeCycle}
use Rattle.theory.specs.Sound.{SoundSlots}
use Rattle.table.specs.Rules.{book_of, program_of}
use Rattle.table.specs.Words.{words, rules_of, depth_at, spoiler_at}

-- The rules stay. Either there is no negative cycle of all rules held, and each slot keeps what the rules ask for; or
-- there is one, and nothing is changed.
pub record Relabelled (before after : List ℕ) (r : Bool) : Type 0 where
  pub rules : rules_of after ≡ rules_of before
  pub sized : length after ≡ words
  pub acyclic :
      r ≡ true
      → (NegativeCycle (program_of (rules_of before)) → ⊥)
      × SoundSlots (book_of (rules_of before)) (depth_at after) (spoiler_at after)
  pub cyclic : r ≡ false → NegativeCycle (program_of (rules_of before)) × (after ≡ before)
