-- What the functions of the crate tell each other (private): what one slot marks. Assumes nothing.
use Rattle.std.specs.Prelude.{ℕ, ◌<◌, ◌≡◌, Bool, ◌||◌, List, [], ◌∷◌, eqb, length}
use Rattle.std.proofs.Math.Option.{Option, none, some}
use Rattle.theory.specs.Lists.{any}
use Rattle.theory.specs.Rules.{Rule, entries}
use Rattle.table.specs.Sets.{member}

-- The atoms of a slot: head and entries of the rule that it holds, if it holds one.
abbrev pub atoms : Option Rule → List ℕ
atoms none = []
atoms (some r) = r.head ∷ entries r

-- The atoms of the list came into the set, and no other, as far as the array of flags goes.
pub record Marked (xs : List ℕ) (before after : List Bool) : Type 0 where
  pub long : length after ≡ length before
  pub is : (a : ℕ) → a < length before → member after a ≡ (member before a || any (eqb a) xs)
