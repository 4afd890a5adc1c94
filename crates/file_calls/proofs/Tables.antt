-- The table that a refused load hands back. Assumes nothing.
use Rattle.std.specs.Prelude.{Err}
use Prim.Native.Nat.{ℕ}
use mathlib.Core.Path.{◌≡◌, sym, subst}
use mathlib.Core.List.{List}
use Rattle.table.specs.declared.Table.{Table}
use Rattle.table.specs.Clean.{empty_table}
use Rattle.refusals.specs.declared.Refusal.{Refusal}
use Rattle.calls.specs.Ends.{LoadEnds}

-- What is handed back is the empty table.
pub load-handed :
    (bs : List ℕ) (f : Refusal) (u : Table) → u ≡ empty_table → LoadEnds bs (Err f) empty_table → LoadEnds bs (Err f) u
load-handed bs f u e E = subst (LoadEnds bs (Err f)) (sym e) E
