-- Private: what the parts of `reach` promise one another, an edge followed and a round over the edges. Assumes nothing.
use Rattle.std.specs.Prelude.{ℕ, zero, suc, ◌+◌, ◌≤◌, ◌<◌, ◌≡◌, Bool, true, false, ◌||◌, List, [], ◌∷◌, eqb, length, set}
use Rattle.theory.specs.Lists.{Steps}
use Rattle.theory.specs.Limits.{document}
use Rattle.table.specs.Sets.{member, one_if}
use Rattle.reach.specs.Edges.{Edge}

-- An edge that leaves a source is followed: the start is one, and so is each member of the set.
abbrev pub source : ℕ → List Bool → ℕ → Bool
source start flags a = eqb a start || member flags a

-- The edge from a to c brings c, which was not in the set, into it.
pub record Marks (start a c : ℕ) (before after : List Bool) : Type 0 where
  pub atom_from : a < document.atoms
  pub atom_to : c < document.atoms
  pub from_source : source start before a ≡ true
  pub inside : c < length before
  pub new : member before c ≡ false
  pub grown : after ≡ set before c true

-- The edge from a to c brings nothing into the set: it may not be followed, or c is in the set already.
pub record Rests (start a c : ℕ) (before after : List Bool) : Type 0 where
  pub same : after ≡ before
  pub held : a < document.atoms → c < document.atoms → source start before a ≡ true → member before c ≡ true

-- One edge was followed; b says whether an atom came into the set.
abbrev pub Followed : (start a c : ℕ) (before after : List Bool) → Bool → Type 0
Followed start a c before after true = Marks start a c before after
Followed start a c before after false = Rests start a c before after

-- How many places are not in the set.
unfoldable pub outside : List Bool → ℕ
outside [] = zero
outside (true ∷ flags) = outside flags
outside (false ∷ flags) = suc (outside flags)

-- Every member of the set is reached from the start.
abbrev pub OnlyReached : (from to : List ℕ) (count start : ℕ) → List Bool → Type 0
OnlyReached from to count start flags = (x : ℕ) → member flags x ≡ true → Steps (Edge from to count) start x

-- The set holds every atom that an edge leads to from the start or from a member.
abbrev pub AllFollowed : (from to : List ℕ) (count start : ℕ) → List Bool → Type 0
AllFollowed from to count start flags =
    (a c : ℕ) → Edge from to count a c → source start flags a ≡ true → member flags c ≡ true

-- Of `count` edges the first i were followed, one after another; b says whether an atom came into the set.
pub record Round (from to : List ℕ) (count start i : ℕ) (before after : List Bool) (b : Bool) : Type 0 where
  pub only : OnlyReached from to count start before → OnlyReached from to count start after
  pub fewer : outside after + one_if b ≤ outside before
  pub same : b ≡ false → after ≡ before
  pub all : b ≡ false → AllFollowed from to i start before
