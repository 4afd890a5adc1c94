-- On a walk up the slots the atoms flagged are those to which a lower slot gives their depth, so that what is due there
-- is what theory's `Confirmed` asks. Assumes nothing.
use Prim.Native.Nat.{ℕ, zero, ◌+◌, ◌<◌}
use native.Mathlib.Omega.{arith}
use native.Mathlib.Numerals.{add-one}
use mathlib.Core.Path.{◌≡◌, refl, ◌∙◌, ap}
use mathlib.Core.Bool.{Bool, false, not, ◌&&◌, ◌||◌, cond}
use mathlib.Core.List.Memᴰ
use mathlib.Core.List.{List}
use mathlib.Core.Option.{Option, none, some}
use lib.Dec.{eqb}
use lib.ListN.{length, get_or, replicate, length-replicate}
use Rattle.theory.specs.Rules.{Bounded, passes, Program, Rule}
use Rattle.theory.specs.Models.{AtomSet}
use Rattle.theory.specs.Certificate.{depth_due, given_below, gives?}
use Rattle.theory.specs.Limits.{document}
use Rattle.table.specs.Sets.{member}
use Rattle.table.proofs.Members.{all_alike}
use Rattle.dues.specs.Due.{Given}

-- The flags before slot i.
pub record Flagged (P : Program) (M : AtomSet) (d : ℕ → ℕ) (i : ℕ) (given : List Bool) : Type 0 where
  pub long : length given ≡ document.atoms
  pub each : (a : ℕ) → a < document.atoms → member given a ≡ given_below P M d i a

module _ (P : Program) (M : AtomSet) (d : ℕ → ℕ) where
  pub flagged-start : Flagged P M d 0 (replicate document.atoms false)
  unfolding given_below
  flagged-start = record {
    long = length-replicate document.atoms false;
    each = λ a l. all_alike document.atoms a false;
  }

  module _ (i : ℕ) (given : List Bool) (F : Flagged P M d i given) where
    pub flagged-next : (after : List Bool) → Given M d (get_or P i none) given after → Flagged P M d (i + 1) after
    unfolding given_below
    flagged-next after G = record {
      long = G.long ∙ F.long;
      each = λ a l. rw (add-one i)
          (G.each a (omega (arith, F.long))
          ∙ ap (λ b. passes (λ r. eqb r.head a && gives? M d r) (get_or P i none) || b) (F.each a l));
    }

    pub flagged-due :
        Bounded P document.atoms
        → depth_due M d (member given) (get_or P i none) ≡ depth_due M d (given_below P M d i) (get_or P i none)
    flagged-due B = go (get_or P i none) refl
      where
        go : (o : Option Rule) → get_or P i none ≡ o
            → depth_due M d (member given) o ≡ depth_due M d (given_below P M d i) o
        go none e = refl
        go (some r) e =
            ap (λ b. cond (gives? M d r && not b) (d r.head) zero)
            (F.each r.head (B i r e r.head (Memᴰ.head refl)))
