-- An array made by a function of the place. Assumes nothing.
use Prim.Native.Nat.{ℕ, zero, suc, ◌+◌, ◌<◌}
use native.Mathlib.Omega.{arith}
use mathlib.Core.Path.{◌≡◌, ◌∙◌, subst}
use mathlib.Core.List.{List}
use lib.ListN.{get_or}
use denote.Param.Members.{Mut}
use Rattle.std.specs.Array.{IsFromFnResult, IsFromFnResultFrom}
use Rattle.std.specs.Fn.{Called}

-- Where each call leaves the function as it was and answers h of the place, h of the place stands at each.
made-from :
    {F B : Type 0} {g : Mut F (ℕ × Unit {0}) B} {f : F} (h : ℕ → B)
    → ((x : ℕ) (y : B) (q : F) → Called g f (x, tt) y q → (q ≡ f) × (y ≡ h x))
    → (ys : List B) (d : B) (i n k : ℕ) → IsFromFnResultFrom g f ys i n → k < n → get_or ys (i + k) d ≡ h (i + k)
made-from h told ys d i zero k m l = absurd (omega arith)
made-from h told ys d i (suc n) zero (q, y, there, called, m) l =
    let e : i ≡ i + 0 = omega arith in
    subst (λ (j : ℕ). get_or ys j d ≡ h j) e (there.1 d ∙ (told i y q called).1)
made-from {F} {g = g} h told ys d i (suc n) (suc k) (q, y, there, called, m) l =
    let e : i + 1 + k ≡ i + suc k = omega arith in
    let rest = subst (λ (p : F). IsFromFnResultFrom g p ys (i + 1) n) (told i y q called).0 m in
    subst (λ (j : ℕ). get_or ys j d ≡ h j) e (made-from h told ys d (i + 1) n k rest (omega arith))

pub made-at :
    {F B : Type 0} {g : Mut F (ℕ × Unit {0}) B} {f : F} {ys : List B} {n : ℕ} (h : ℕ → B) → IsFromFnResult g f ys n
    → ((x : ℕ) (y : B) (q : F) → Called g f (x, tt) y q → (q ≡ f) × (y ≡ h x))
    → (d : B) (k : ℕ) → k < n → get_or ys k d ≡ h k
made-at {ys = ys} {n} h m told d k l =
    let e : 0 + k ≡ k = omega arith in
    subst (λ (j : ℕ). get_or ys j d ≡ h j) e (made-from h told ys d 0 n k m.each l)
