-- `written_lists::one_if` meets its contract. Assumes nothing.
use mathlib.Core.Path.{sym, ap}
use Rattle.table.specs.Sets.{one_if}
use Rattle.written_lists.proofs.one_if.Goals as goal

pub returns-then-flag : goal.returns-then-flag
returns-then-flag c = sym (ap one_if c.if-flag.true)

pub returns-else-flag : goal.returns-else-flag
returns-else-flag c = sym (ap one_if c.if-flag.false)
