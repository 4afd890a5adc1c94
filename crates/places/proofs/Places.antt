-- Laws of a place further on in its line. Assumes nothing.
use Prim.Native.Nat.{ℕ}
use native.Mathlib.Omega.{arith}
use mathlib.Core.Path.{◌≡◌, refl, ◌∙◌}
use mathlib.Core.List.{List}
use Rattle.places.specs.Places.{Onward}
use Rattle.places.specs.declared.Place.{Place}

pub onward-here : {line : List ℕ} {p q : Place} → q ≡ p → Onward line p q
onward-here e = rw e (record { same_line = refl; not_before = omega arith; not_past = λ h. h })

pub onward_then : {line : List ℕ} {p q r : Place} → Onward line p q → Onward line q r → Onward line p r
onward_then f g =
    record {
      same_line = g.same_line ∙ f.same_line;
      not_before = omega (arith, f.not_before, g.not_before);
      not_past = λ h. g.not_past (f.not_past h);
    }

-- The answer's place is one that was come to.
pub onward-to : {line : List ℕ} {p q r : Place} → Onward line p q → r ≡ q → Onward line p r
onward-to f e = onward_then f (onward-here e)
