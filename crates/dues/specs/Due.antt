-- What a slot has to keep, in the words of theory's `SlotConfirmed`, and which atoms got their depths. Assumes nothing.
use Rattle.std.specs.Prelude.{ℕ, zero, ◌<◌, ◌≡◌, Bool, true, not, ◌&&◌, ◌||◌, cond, List, eqb, length, set}
use Rattle.std.proofs.Math.Option.{Option, none, some}
use Rattle.theory.specs.Rules.{Rule, passes}
use Rattle.theory.specs.Models.{AtomSet, valid}
use Rattle.theory.specs.Slots.{place_kept}
use Rattle.theory.specs.Certificate.{level, gives?, depth_due}
use Rattle.table.specs.Sets.{member}
use Rattle.dues.specs.declared.Due.{Due}

-- The level of a slot's rule if it is valid, else 0.
abbrev pub valid_level : AtomSet → (ℕ → ℕ) → Option Rule → ℕ
valid_level M d none = zero
valid_level M d (some r) = cond (valid M r) (level d r) zero

-- The flags after a slot are those before it, and its head's if its rule gives the head its depth.
pub record Given (M : AtomSet) (d : ℕ → ℕ) (o : Option Rule) (before after : List Bool) : Type 0 where
  pub long : length after ≡ length before
  pub each : (a : ℕ) → a < length before
      → member after a ≡ (passes (λ r. eqb r.head a && gives? M d r) o || member before a)

-- What a slot, o, has to keep: the atoms to which lower slots give their depths are those flagged before.
pub record DueIn (M : AtomSet) (d : ℕ → ℕ) (o : Option Rule) (before after : List Bool) (r : Due) : Type 0 where
  pub level : r.level ≡ valid_level M d o
  pub depth : r.depth ≡ depth_due M d (member before) o
  pub spoiler : r.spoiler ≡ place_kept M o
  pub given : Given M d o before after

-- The same of a slot with a valid rule of this head and level (private).
abbrev pub gives_at : (ℕ → ℕ) → ℕ → ℕ → Bool
gives_at d head level = eqb level (d head)

pub record DepthDue (d : ℕ → ℕ) (head level : ℕ) (before after : List Bool) (r : ℕ) : Type 0 where
  pub depth : r ≡ cond (gives_at d head level && not (member before head)) (d head) zero
  pub given : after ≡ cond (gives_at d head level && not (member before head)) (set before head true) before
