-- What the probes answer: the engine's contracts as numbers. Assumes nothing.
use Rattle.std.specs.Prelude.{ℕ, suc, ◌<◌, ◌≡◌, List, get_or, length, replicate}
use Rattle.theory.specs.Dependencies.{NegativeCycle}
use Rattle.theory.specs.Limits.{document}
use Rattle.theory.specs.Rounds.{RoundsTold}
use Rattle.theory.specs.Sound.{SoundSlots}
use Rattle.table.specs.declared.Table.{Table}
use Rattle.table.specs.Rules.{book_of, program_of, past_rule}
use Rattle.table.specs.Words.{words, rules_of, depth_at, spoiler_at}
use Rattle.table.specs.Clean.{WellFormed}
use Rattle.table.specs.Sets.{number}
use Rattle.table.specs.Sound.{Sound}
use Rattle.well_formed.specs.Slots.{Single}
use Rattle.probe.specs.declared.Relabelled.{Relabelled}
use Rattle.probe.specs.declared.RoundsCounted.{RoundsCounted}

-- 1 for a sound table, 0 for any other.
pub data SoundProbe (t : Table) : ℕ → Type 0 where
  is_sound : Sound t → SoundProbe t 1
  is_not : (Sound t → ⊥) → SoundProbe t 0

-- The rules are sound by themselves: each slot well formed, no rule in two slots.
pub record RulesFit (t : Table) : Type 0 where
  pub slots : (s : ℕ) → s < document.slots → WellFormed (get_or (rules_of t.words) s past_rule)
  pub single : Single (program_of (rules_of t.words))

-- The table with what its slots have to keep, where its rules have no negative cycle; or as it came, where they do not
-- fit (15) or have one (7).
pub data LabelsProbe (t : Table) : Relabelled → Type 0 where
  unfit : (RulesFit t → ⊥) → LabelsProbe t (record { refused = 15; table = t })
  cyclic : RulesFit t → NegativeCycle (program_of (rules_of t.words)) → LabelsProbe t (record { refused = 7; table = t })
  labelled :
      (u : Table) → RulesFit t → (NegativeCycle (program_of (rules_of t.words)) → ⊥)
      → rules_of u.words ≡ rules_of t.words → length u.words ≡ words
      → SoundSlots (book_of (rules_of t.words)) (depth_at u.words) (spoiler_at u.words)
      → LabelsProbe t (record { refused = 0; table = u })

-- No rounds of any layer.
abbrev pub no_rounds : List ℕ
no_rounds = replicate (suc document.slots) 0

-- The rounds of each layer of the rules; none, where the rules do not fit (15) or have a negative cycle (7).
pub data RoundsProbe (t : Table) : RoundsCounted → Type 0 where
  not_fit : (RulesFit t → ⊥) → RoundsProbe t (record { refused = 15; rounds = no_rounds })
  no_strata :
      RulesFit t → NegativeCycle (program_of (rules_of t.words)) → RoundsProbe t (record { refused = 7; rounds = no_rounds })
  counted :
      (rounds : List ℕ) → RulesFit t → (NegativeCycle (program_of (rules_of t.words)) → ⊥)
      → length rounds ≡ suc document.slots → ((k : ℕ) → RoundsTold (book_of (rules_of t.words)) k (number rounds k))
      → RoundsProbe t (record { refused = 0; rounds = rounds })
