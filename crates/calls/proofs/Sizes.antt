-- A table that the code has is sized: what owning it tells of its numbers. Assumes nothing.
use mathlib.Core.List.{List}
use mir.Val.{Val}
use denote.Laws.{Is}
use denote.Struct.Declared.{row}
use Rattle.table.specs.declared.Table.{Table}
use Rattle.table.specs.contracts.Table as table-type
use Rattle.calls.specs.Ends.{Sized}

pub table-sized : (t : Table) (vs : List Val) → Is (row table-type.the_type) t vs → Sized t
table-sized t vs p = record { long = p.1.1.0.1.0.1 }
