-- The start of a sheet has a sound table: the empty one. Assumes nothing.
use mathlib.Core.Path.{sym, subst}
use Rattle.table.specs.declared.Table.{Table}
use Rattle.table.specs.Sound.{Sound}
use Rattle.table.proofs.Empty.{empty-sound}
use Rattle.sheet_meaning.specs.Sheets.{start}
use Rattle.sheet_feed.specs.declared.Sheet.{Sheet}
use Rattle.sheet_feed.specs.Sheets.{StandsFor}

pub start-sound : (c : Sheet) → StandsFor start c → Sound c.table
start-sound c S = subst (λ (t : Table). Sound t) (sym S.table) empty-sound
