-- Laws of one or more steps of a relation. Assumes nothing.
use Prim.Native.Nat.{ℕ}
use mathlib.Core.Path.{◌≡◌}
use mathlib.Core.Bool.{true}
use Rattle.theory.specs.Lists.{Steps, one, more}
use Rattle.theory.specs.Models.{AtomSet}

-- One step more at the end.
pub steps_on : {S : ℕ → ℕ → Type 0} {a x c : ℕ} → Steps S a x → S x c → Steps S a c
steps_on (one s) t = more s (one t)
steps_on (more s u) t = more s (steps_on u t)

module _
    {S : ℕ → ℕ → Type 0} (M : AtomSet)
    (closed : (x y : ℕ) → M x ≡ true → S x y → M y ≡ true)
  where
    -- A set that is closed under the steps holds all that is reached from a member,
    pub reached-in : {a c : ℕ} → Steps S a c → M a ≡ true → M c ≡ true
    reached-in (one {a = a} {c = c} s) t = closed a c t s
    reached-in (more {a = a} {x = x} s u) t = reached-in u (closed a x t s)

    -- and all that is reached from a if it holds what a's first steps lead to.
    pub steps-in : {a c : ℕ} → ((y : ℕ) → S a y → M y ≡ true) → Steps S a c → M c ≡ true
    steps-in first (one {c = c} s) = first c s
    steps-in first (more {x = x} s u) = reached-in u (first x s)
