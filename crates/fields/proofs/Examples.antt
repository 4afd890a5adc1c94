-- Numbers as they are printed. Assumes nothing.
use mathlib.Core.Path.{◌≡◌, refl}
use mathlib.Core.List.{[], ◌∷◌, map}
use Rattle.fields.specs.Texts.{bytes}
use Rattle.fields.specs.Fields.{decimal_in, decimal}

prints : map decimal (0 ∷ 7 ∷ 10 ∷ 42 ∷ 255 ∷ []) ≡ bytes "0" ∷ bytes "7" ∷ bytes "10" ∷ bytes "42" ∷ bytes "255" ∷ []
unfolding bytes decimal_in decimal
prints = refl
