-- Private: the positive entries of each atom's supporting rule, copied to one array. Assumes nothing.
use Rattle.std.specs.Prelude.{ℕ, ◌+◌, ◌*◌, ◌≤◌, ◌<◌, ◌≡◌, ◌⊎◌, Bool, true, false, List, [], length, get_or}
use Rattle.theory.specs.Models.{AtomSet}
use Rattle.theory.specs.Limits.{document}
use Rattle.table.specs.declared.Atom.{Atom}
use Rattle.table.specs.declared.Rule.{Rule}
use Rattle.table.specs.Sets.{number}
use Rattle.table.specs.Rules.{rule_of, no_atom}
use Rattle.table.specs.Clean.{free_rule}

-- The positive entries of the rule, if it is the supporting one of an in atom: else none.
abbrev pub positives_if : Bool → Rule → List ℕ
positives_if true r = (rule_of r).positives
positives_if false r = []

-- The positive entries of an in atom's supporting rule: M has the in atoms, s their supporting slots.
abbrev pub positives_at : List Rule → AtomSet → (ℕ → ℕ) → ℕ → List ℕ
positives_at rules M s a = positives_if (M a) (get_or rules (s a) free_rule)

-- Where entry j of the atom a stands in the array of all entries.
abbrev pub entry_index : ℕ → ℕ → ℕ
entry_index a j = a * document.entries + j

-- The entries copied for the atom a are xs.
pub record EntriesCopied (xs counts entries : List ℕ) (a : ℕ) : Type 0 where
  pub counted : number counts a ≡ length xs
  pub copied : (j : ℕ) → j < length xs → number entries (entry_index a j) ≡ get_or xs j 0

-- For each atom the positive entries of its supporting rule are copied.
abbrev pub EntriesOf : List Rule → AtomSet → (ℕ → ℕ) → List ℕ → List ℕ → Type 0
EntriesOf rules M s counts entries = (a : ℕ) → EntriesCopied (positives_at rules M s a) counts entries a

-- x is one of the entries copied for the atom a.
pub record SupportEntry (counts entries : List ℕ) (a x : ℕ) : Type 0 where
  pub index : ℕ
  pub counted : index < number counts a
  pub there : number entries (entry_index a index) ≡ x

-- The array has room for n entries from a place on, where a rule has so many.
pub record Fits (n from : ℕ) (entries : List ℕ) : Type 0 where
  pub few : n ≤ document.entries
  pub long : length entries ≡ document.atoms * document.entries
  pub fits : from + n ≤ length entries

-- The first n atoms of xs were copied to the places from `from` on; the other places stay.
pub record CopiedTo (xs : List Atom) (n from : ℕ) (before after : List ℕ) : Type 0 where
  pub long : length after ≡ length before
  pub here : (j : ℕ) → j < n → number after (from + j) ≡ (get_or xs j no_atom).0
  pub other : (k : ℕ) → (k < from) ⊎ (from + n ≤ k) → number after k ≡ number before k
