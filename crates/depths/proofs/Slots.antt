-- Laws of one slot: whose head its rule has, and which depths are below a limit. Assumes nothing.
use Prim.Native.Nat.{ℕ, ◌≤◌, ◌<◌}
use native.Mathlib.Omega.{arith}
use mathlib.Core.Path.{◌≡◌, sym, ap}
use mathlib.Core.Bool.{true, false}
use mathlib.Core.Option.{some}
use lib.Dec.{ltb}
use Rattle.theory.specs.Rules.{Rule}
use Rattle.theory.proofs.Lists.{and_l, and_r, and-of, ltb-lt, lt-ltb, unless}
use Rattle.table.specs.declared.Rule as table
use Rattle.table.specs.Rules.{active_in}
use Rattle.table.proofs.Programs.{active-rule}
use Rattle.depths.specs.Numbers.{within}

-- The rule that a slot holds has the slot's head.
pub slot-head : (r : table.Rule) (q : Rule) → active_in r ≡ some q → q.head ≡ r.head.0
slot-head r q e = ap (λ (z : Rule). z.head) (sym (active-rule r q e))

-- A depth below the limit, none, or one that is not below it.
module _ (d : ℕ → ℕ) (limit x : ℕ) where
  pub within_of : (d x ≡ 0 → ⊥) → d x < limit → within d limit x ≡ true
  within_of n l = and-of _ _ (lt-ltb 0 (d x) (omega arith)) (lt-ltb (d x) limit l)

  pub within-at : within d limit x ≡ true → (0 < d x) × (d x < limit)
  within-at t = (
    ltb-lt 0 (d x) (and_l (ltb 0 (d x)) (ltb (d x) limit) t),
    ltb-lt (d x) limit (and_r (ltb 0 (d x)) (ltb (d x) limit) t),
  )

  pub within_none : d x ≡ 0 → within d limit x ≡ false
  within_none z = unless _ (λ t. omega (arith, (within-at t).0))

  pub within-high : limit ≤ d x → within d limit x ≡ false
  within-high l = unless _ (λ t. omega (arith, (within-at t).1))
