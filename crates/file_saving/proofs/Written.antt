-- Zeros written at a place of a buffer. Assumes nothing.
use Prim.Native.Nat.{ℕ, ◌+◌, ◌-◌, ◌≤◌}
use native.Mathlib.Omega.{arith}
use mathlib.Core.Path.{◌≡◌, ◌∙◌, ap, ap₂}
use mathlib.Core.List.{List, ◌++◌}
use lib.ListN.{length, take, drop, replicate, length-replicate}
use lib.Seq.{drop-drop}
use borrow.Rule.Slice.PartMut.{put_mid}
use Rattle.fields.specs.Written.{put, Wrote}

pub wrote-zeros :
    {before zeros : List ℕ} (at to : ℕ) → at ≤ to → to ≤ length before → zeros ≡ replicate (to - at) 0
    → Wrote (replicate (to - at) 0) before at (put_mid at (to - at) before zeros) to
unfolding put
wrote-zeros {before} at to order room e =
    let n = to - at in
    let size = length-replicate {A = ℕ} n 0 in
    let end : at + n ≡ at + length (replicate {A = ℕ} n 0) = omega (arith, size) in
    record {
      room = omega (arith, size);
      buffer =
          ap₂ (λ (xs ys : List ℕ). take at before ++ (xs ++ ys)) e
          (drop-drop n at before ∙ ap (λ (k : ℕ). drop k before) end);
      place = omega (arith, size);
    }
