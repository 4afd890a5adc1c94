-- Private: the edges that the slots give, from an atom to one that it affects, as two lists of numbers. Assumes
-- nothing.
use Rattle.std.specs.Prelude.{ℕ, ◌≤◌, ◌<◌, ◌+◌, ◌≡◌, true, false, List, ◌⊎◌, ◌↔◌, length, get_or, set}
use Rattle.std.proofs.Math.Option.{Option, some}
use Rattle.theory.specs.Lists.{◌∈◌}
use Rattle.theory.specs.Rules.{Rule, entries}
use Rattle.theory.specs.Models.{AtomSet}
use Rattle.theory.specs.Labels.{Spoiler, spoiler}
use Rattle.theory.specs.Limits.{document}

-- One of the first n edges leads from x to h.
pub record Stands (from to : List ℕ) (n x h : ℕ) : Type 0 where
  pub index : ℕ
  pub counted : index < n
  pub leaves : get_or from index 0 ≡ x
  pub enters : get_or to index 0 ≡ h

-- An edge from a to c was put behind the first n.
pub record AddedEdge (a c : ℕ) (from to : List ℕ) (n : ℕ) (from' to' : List ℕ) (n' : ℕ) : Type 0 where
  pub room_from : n < length from
  pub room_to : n < length to
  pub leaves : from' ≡ set from n a
  pub enters : to' ≡ set to n c
  pub one_more : n' ≡ n + 1

-- The edges of S, and no others, were put behind the first n; there is at most one for each entry of a rule.
pub record Grown (S : ℕ → ℕ → Type 0) (from to : List ℕ) (n : ℕ) (from' to' : List ℕ) (n' : ℕ) : Type 0 where
  pub few : n' ≤ n + document.entries
  pub size_from : length from' ≡ length from
  pub size_to : length to' ≡ length to
  pub exactly : (x h : ℕ) → Stands from' to' n' x h ↔ (Stands from to n x h ⊎ S x h)

-- From each entry of a rule to its head.
pub record FromEntries (r : Rule) (x h : ℕ) : Type 0 where
  pub there : x ∈ entries r
  pub heads : r.head ≡ h

-- Slot i, which is o, makes x affect h. In M, an in atom h has the supporting slot s h, and all entries x of its rule
-- affect h; an out atom is affected by the atoms of its rules' spoilers.
pub data Gives (M : AtomSet) (s : ℕ → ℕ) (i : ℕ) (o : Option Rule) (x h : ℕ) : Type 0 where
  entry : (r : Rule) → o ≡ some r → M h ≡ true → s h ≡ i → FromEntries r x h → Gives M s i o x h
  spoils :
      (r : Rule) (z : Spoiler) → o ≡ some r → M h ≡ false → r.head ≡ h → spoiler M r ≡ some z → z.atom ≡ x
      → Gives M s i o x h
