-- Question 15: is the table handed in sound (specification 3.4)? Assumes nothing.
use Rattle.std.specs.Prelude.{ℕ, ◌<◌, get_or}
use Rattle.theory.specs.Sound.{SoundRules, SoundSlots}
use Rattle.theory.specs.Limits.{document}
use Rattle.table.specs.declared.Table.{Table}
use Rattle.table.specs.Rules.{book_of, past_rule}
use Rattle.table.specs.Words.{rules_of, depth_at, spoiler_at}
use Rattle.table.specs.Clean.{CleanRule}

-- Sound: the rules held are as the theory asks, so is what each slot keeps, and all that holds nothing is clean.
pub record Sound (t : Table) : Type 0 where
  pub rules : SoundRules document (book_of (rules_of t.words))
  pub kept : SoundSlots (book_of (rules_of t.words)) (depth_at t.words) (spoiler_at t.words)
  pub clean : (s : ℕ) → s < document.slots → CleanRule (get_or (rules_of t.words) s past_rule)
