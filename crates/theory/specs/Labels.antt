-- Supporting rules, labels and spoilers (specification 2.8 to 2.10). Assumes nothing.
use Rattle.std.specs.Prelude.{ℕ, zero, suc, ◌+◌, ◌<◌, ◌≡◌, Bool, true, false, not, List, length}
use Rattle.std.proofs.Math.Option.{Option, none, some, map}
use Rattle.theory.specs.Lists.{◌∈◌, first, before, FirstAt}
use Rattle.theory.specs.Rules.{Rule, Program, Held, Pages, all, active, Occurs}
use Rattle.theory.specs.Models.{AtomSet, valid}
use Rattle.theory.specs.Derivations.{Depth}

-- The depth of x is smaller than that of a.
pub record Shallower (P : Program) (M : AtomSet) (x a : ℕ) : Type 0 where
  pub less : ℕ
  pub more : ℕ
  pub depth_x : Depth P M x less
  pub depth_a : Depth P M a more
  pub order : less < more

-- Slot s holds a rule with head a, valid in M, with all positive entries of smaller depth.
pub record Supports (P : Program) (M : AtomSet) (a s : ℕ) : Type 0 where
  pub rule : Rule
  pub held : Held P s rule
  pub heads : rule.head ≡ a
  pub good : valid M rule ≡ true
  pub smaller : (x : ℕ) → x ∈ rule.positives → Shallower P M x a

-- The supporting rule of an in atom is the one in the lowest such slot.
pub record Supporting (P : Program) (M : AtomSet) (a s : ℕ) : Type 0 where
  pub supports : Supports P M a s
  pub lowest : (t : ℕ) → t < s → Supports P M a t → ⊥

-- A label: absent, out, or in with depth and supporting slot.
pub data Label : Type 0 where
  absent : Label
  out : Label
  in_at : ℕ → ℕ → Label

-- The label of an atom: absent if it does not occur in any rule held; of the others, in if it is in M, else out. Depth
-- and supporting slot are by the unmuted rules.
pub data Labelled (B : Pages) (M : AtomSet) (a : ℕ) : Label → Type 0 where
  is_absent : (Occurs (all B) a → ⊥) → Labelled B M a absent
  is_out : Occurs (all B) a → M a ≡ false → Labelled B M a out
  is_in : {d s : ℕ} → M a ≡ true → Depth (active B) M a d → Supporting (active B) M a s → Labelled B M a (in_at d s)

-- On which side of a rule an entry stands: in the positive list or in the negative.
pub data Side : Type 0 where
  positive : Side
  negative : Side

-- An entry that spoils a rule: its list, its place in that list, from 0, and its atom. A rule may hold an atom in both
-- lists.
pub record Spoiler : Type 0 where
  pub side : Side
  pub place : ℕ
  pub atom : ℕ

-- The first entry of the list on a side that passes the test, if one does.
unfoldable pub first_on : Side → (ℕ → Bool) → List ℕ → Option Spoiler
first_on d f xs = map (λ x. record { side = d; place = before f xs; atom = x }) (first f xs)

-- The spoiler of a rule not valid in M is its first spoiling entry, the positive list read first, then the negative,
-- each in its order (a held rule's lists ascend). A positive entry spoils if out, a negative one if in.
unfoldable pub spoiler : AtomSet → Rule → Option Spoiler
spoiler M r = elim (first_on positive (λ x. not (M x)) r.positives) [
  | some s ↦ some s
  | none ↦ first_on negative M r.negatives
]

-- A spoiler really spoils the rule, and no entry before it does. The rule needs a positive entry that is out, or it is
-- blocked by a negative entry that is in, where every positive entry is in. The entry stands at its place of its list,
-- and none at an earlier place spoils.
pub data Spoils (M : AtomSet) (r : Rule) : Spoiler → Type 0 where
  needs : {i x : ℕ} → FirstAt (λ y. not (M y)) r.positives i x
      → Spoils M r (record { side = positive; place = i; atom = x })
  blocked : {i x : ℕ} → ((y : ℕ) → y ∈ r.positives → M y ≡ true) → FirstAt M r.negatives i x
      → Spoils M r (record { side = negative; place = i; atom = x })

-- The place of a spoiler in its rule, counted from 1 over both lists, the positive one first; 0 stands for none.
abbrev pub place_over : Rule → Option Spoiler → ℕ
place_over r none = zero
place_over r (some s) = elim s.side [
  | positive ↦ suc s.place
  | negative ↦ suc (length r.positives + s.place)
]
