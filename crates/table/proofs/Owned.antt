-- What owning an array tells of its elements. Assumes nothing.
use Prim.Native.Nat.{ℕ, zero, suc, ◌<◌}
use native.Mathlib.Omega.{arith}
use mathlib.Core.List.{List, [], ◌∷◌}
use lib.ListN.{length, get_or}
use mir.Val.{Val}
use base.Fml.{Fml}
use denote.Shadow.{shadow}
use denote.Array.{each}

-- What each element of an array tells of itself, at one place.
pub each_at :
    {d : Type 0} (f : d → List Val → Fml) (Q : d → Type 0) → ((x : d) (vs : List Val) → shadow (f x vs) → Q x)
    → (xs : List d) (us : List Val) → shadow (each d f xs us) → (k : ℕ) (x : d) → k < length xs → Q (get_or xs k x)
each_at f Q h [] us p k x l = absurd (omega arith)
each_at f Q h (y ∷ xs) [] p k x l = absurd p
each_at f Q h (y ∷ xs) (u ∷ us) p zero x l = h y (u ∷ []) p.0
each_at f Q h (y ∷ xs) (u ∷ us) p (suc k) x l = each_at f Q h xs us p.1 k x (omega arith)
