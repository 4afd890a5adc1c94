-- `refusals::refusal_number` meets its contract: what each of the 20 cases is told, and then that it answers its
-- number. Assumes nothing.
use mathlib.Core.Path.{◌≡◌, sym, ap}
use Rattle.refusals.specs.declared.Refusal.{Refusal}
use Rattle.refusals.specs.Refusals.{number_of}

told : (f g : Refusal) → f ≡ g → number_of g ≡ number_of f
told f g e = ap number_of (sym e)
