-- All that holds nothing stands as in the empty table (specification 3.4). Assumes nothing.
use Rattle.std.specs.Prelude.{ℕ, ◌+◌, ◌≤◌, ◌≡◌, get_or, replicate}
use Rattle.std.proofs.Math.Option.{none, some}
use Rattle.theory.specs.Rules as theory
use Rattle.theory.specs.Questions.{first_no, rule_questions}
use Rattle.theory.specs.Limits.{document}
use Rattle.table.specs.declared.Rule.{Rule}
use Rattle.table.specs.declared.Table.{Table}
use Rattle.table.specs.Rules.{no_atom, no_rule, slot_of}
use Rattle.table.specs.Words.{words}

-- A free slot of the empty table.
abbrev pub free_rule : Rule
free_rule = no_rule (replicate document.entries no_atom)

-- The empty table, in which every slot is free and keeps nothing: all its numbers are 0.
abbrev pub empty_table : Table
empty_table = record { words = replicate words 0 }

-- A slot is free (0), or holds an unmuted rule (1) or a muted one (2). A free one is that of the empty table; a rule's
-- lists fit the entries, and the entries past the lists' end are as in the empty table.
pub record CleanRule (r : Rule) : Type 0 where
  pub known : r.state ≤ 2
  pub free : r.state ≡ 0 → r ≡ free_rule
  pub fits : r.positives + r.negatives ≤ document.entries
  pub filler : (i : ℕ) → r.positives + r.negatives ≤ i → get_or r.entries i no_atom ≡ no_atom

-- A slot that a sound table can have: clean, and if it holds a rule, that rule passes questions 1 to 4 and has
-- ascending lists.
pub record WellFormed (r : Rule) : Type 0 where
  pub clean : CleanRule r
  pub passes : (q : theory.Rule) → slot_of r ≡ some q → first_no (rule_questions document q) ≡ none
  pub ascending : (q : theory.Rule) → slot_of r ≡ some q → theory.Ascending q
