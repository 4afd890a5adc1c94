-- A slot of the table as the theory's rule, and what the calls on one rule answer. Assumes nothing.
use Rattle.std.specs.Prelude.{Some, None, ℕ, zero, suc, Bool, true, false, cond, List, [], map, take, drop}
use Rattle.std.specs.Prelude as rust
use Rattle.std.proofs.Math.Option.{Option, none, some}
use Rattle.theory.specs.Rules.{Page, Pages, Program, rule_on, active_on, all, active}
use Rattle.theory.specs.Rules as theory
use Rattle.theory.specs.Labels.{positive, negative}
use Rattle.theory.specs.Labels as labels
use Rattle.table.specs.declared.Atom.{Atom}
use Rattle.table.specs.declared.Rule.{Rule}
use Rattle.table.specs.declared.Spoiler.{Spoiler}
use Rattle.table.specs.declared.Spoiler.TheVariants.{Positive, Negative}

-- Atoms by their numbers.
abbrev pub numbers : List Atom → List ℕ
numbers atoms = map (λ a. a.0) atoms

-- The rule that a slot's fields stand for: the positive list first among the entries, the negative list after it.
-- Whatever the counts say, a list ends where the entries end.
abbrev pub rule_of : Rule → theory.Rule
rule_of r =
    record {
      head = r.head.0;
      positives = numbers (take r.positives r.entries);
      negatives = numbers (take r.negatives (drop r.positives r.entries));
    }

-- A slot is free (state 0) or holds one rule, unmuted (1) or muted (2; any greater number is unsound).
abbrev pub page_in : ℕ → theory.Rule → Option Page
page_in zero r = none
page_in (suc zero) r = some (record { rule = r; muted = false })
page_in (suc (suc n)) r = some (record { rule = r; muted = true })

-- The state of a slot that holds a rule with this mark.
abbrev pub state_of : Bool → ℕ
state_of muted = cond muted 2 1

abbrev pub page_of : Rule → Option Page
page_of r = page_in r.state (rule_of r)

-- The rule that a slot holds, muted or not; the rule that it holds unmuted.
abbrev pub slot_of : Rule → Option theory.Rule
slot_of r = rule_on (page_of r)

abbrev pub active_in : Rule → Option theory.Rule
active_in r = active_on (page_of r)

-- The pages of the book that the table's slots are; the program of all their rules, and of the unmuted ones.
abbrev pub book_of : List Rule → Pages
book_of rules = map page_of rules

abbrev pub program_of : List Rule → Program
program_of rules = all (book_of rules)

abbrev pub active_of : List Rule → Program
active_of rules = active (book_of rules)

-- The spoiler that an answer names, if it names one.
abbrev pub spoiler_of : rust.Option Spoiler → Option labels.Spoiler
spoiler_of None = none
spoiler_of (Some (Positive i a)) = some (record { side = positive; place = i; atom = a.0 })
spoiler_of (Some (Negative i a)) = some (record { side = negative; place = i; atom = a.0 })

-- What an array of entries reads as past its end: atom 0, which also stands where there is no entry.
abbrev pub no_atom : Atom
no_atom = record { 0 = 0 }

-- A slot that holds no rule, with these entries.
abbrev pub no_rule : List Atom → Rule
no_rule entries = record { state = 0; head = no_atom; positives = 0; negatives = 0; entries = entries }

-- What an array of slots reads as past its end.
abbrev pub past_rule : Rule
past_rule = no_rule []
