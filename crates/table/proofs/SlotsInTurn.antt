-- A round comes to every slot, upwards or downwards. Assumes nothing.
use Prim.Native.Nat.{ℕ, ◌-◌, ◌<◌}
use native.Mathlib.Omega.{arith}
use mathlib.Core.Path.{◌≡◌, refl}
use mathlib.Core.Bool.{Bool, true, false}
use Rattle.table.specs.Turns.{slot_at}

slot-below : (n : ℕ) (down : Bool) (i : ℕ) → i < n → slot_at n down i < n
unfolding slot_at
slot-below n false i l = l
slot-below n true i l = omega arith

pub slot-at-below : (n : ℕ) (down : Bool) (i s : ℕ) → s ≡ slot_at n down i → i < n → s < n
slot-at-below n down i s e l = omega (arith, slot-below n down i l)

-- The slot s is come to after some number of others.
pub slot-at-each : (n : ℕ) (down : Bool) (s : ℕ) → s < n → (i : ℕ) × (i < n) × (slot_at n down i ≡ s)
unfolding slot_at
slot-at-each n false s l = (s, l, refl)
slot-at-each n true s l = (n - 1 - s, omega arith, omega arith)

-- What the walk upwards and the walk downwards come to.
pub slot-at-up : (n : ℕ) (down : Bool) (i : ℕ) → down ≡ false → i ≡ slot_at n down i
unfolding slot_at
slot-at-up n down i e = rw e refl

pub slot-at-down : (n : ℕ) (down : Bool) (i s : ℕ) → down ≡ true → s ≡ n - 1 - i → s ≡ slot_at n down i
unfolding slot_at
slot-at-down n down i s e q = rw e q
