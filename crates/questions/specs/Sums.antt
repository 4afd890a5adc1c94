-- The sum of a slot's first entries (private to the test of what holds nothing). Assumes nothing.
use Rattle.std.specs.Prelude.{ℕ, zero, suc, ◌+◌, List, get_or}
use Rattle.table.specs.declared.Atom.{Atom}
use Rattle.table.specs.Rules.{no_atom}

unfoldable pub sum_to : List Atom → ℕ → ℕ
sum_to xs zero = 0
sum_to xs (suc n) = sum_to xs n + (get_or xs n no_atom).0
