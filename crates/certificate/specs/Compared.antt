-- Private to question 15 (specification 3.4): one slot compared with what it has to keep. Assumes nothing.
use Rattle.std.specs.Prelude.{ℕ, ◌≡◌, Bool, true, List, ◌↔◌}
use Rattle.std.proofs.Math.Option.{Option}
use Rattle.theory.specs.Rules.{Rule}
use Rattle.theory.specs.Models.{AtomSet}
use Rattle.theory.specs.Certificate.{SlotConfirmed}
use Rattle.table.specs.Sets.{member}
use Rattle.dues.specs.Due.{Given}

-- A slot, o, that keeps this depth and spoiler was compared, with the answer t. The atoms to which lower slots give
-- their depths are those flagged before.
pub record Compared
    (M : AtomSet) (d : ℕ → ℕ) (o : Option Rule) (before after : List Bool) (depth spoiler : ℕ) (t : Bool) : Type 0 where
  pub test : (t ≡ true) ↔ SlotConfirmed M d (member before) o depth spoiler
  pub given : Given M d o before after
