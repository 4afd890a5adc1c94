-- Private: what the functions behind an addition answer. Assumes nothing.
use Rattle.std.specs.Prelude.{ℕ, ◌+◌, ◌≤◌, ◌<◌, ◌≡◌, ◌⊎◌, false, List, length, get_or, Option, Some, None}
use Rattle.std.proofs.Math.Option.{none, some}
use Rattle.std.proofs.Math.Seq.{slice}
use Rattle.theory.specs.Lists.{insert}
use Rattle.theory.specs.Rules.{Program}
use Rattle.theory.specs.Rules as theory
use Rattle.theory.specs.Questions.{lowest_free}
use Rattle.theory.specs.Limits.{document}
use Rattle.table.specs.declared.Atom.{Atom}
use Rattle.table.specs.declared.Rule.{Rule}
use Rattle.table.specs.declared.Slot.{Slot}
use Rattle.table.specs.Rules.{page_of, numbers, no_atom}
use Rattle.table.specs.Clean.{CleanRule}

-- An atom x is put among the entries from a place to below another, as `insert` does; every other entry is as before.
pub record Inserted (before : List Atom) (from to x : ℕ) (after : List Atom) : Type 0 where
  pub inside : numbers (slice from (to + 1) after) ≡ insert x (numbers (slice from to before))
  pub outside : (i : ℕ) → (i < from) ⊎ (to < i) → get_or after i no_atom ≡ get_or before i no_atom

-- A list of numbers stands among the entries from a place on; every other entry is as before.
pub record Placed (before : List Atom) (from : ℕ) (list : List ℕ) (after : List Atom) : Type 0 where
  pub inside : numbers (slice from (from + length list) after) ≡ list
  pub outside : (i : ℕ) → (i < from) ⊎ (from + length list ≤ i) → get_or after i no_atom ≡ get_or before i no_atom

-- A slot that holds the rule, unmuted, with nothing past its lists.
pub record SlotWith (q : theory.Rule) (r : Rule) : Type 0 where
  pub held : page_of r ≡ some (record { rule = q; muted = false })
  pub clean : CleanRule r

-- The lowest free slot, or that none is free.
pub data LowestFree (P : Program) : Option Slot → Type 0 where
  at : (s : ℕ) → s < document.slots → lowest_free P ≡ some s → LowestFree P (Some (record { 0 = s }))
  nowhere : lowest_free P ≡ none → LowestFree P None
