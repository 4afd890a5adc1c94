-- `table::sets::has` meets its contract. Past the end the set reads as false. Assumes nothing.
use Rattle.table.proofs.Entries.{past}
use borrow.Author.Rules.{rules}
use Rattle.table.proofs.sets.has.Goals as goal

pub returns-else-i-s : goal.returns-else-i-s
returns-else-i-s c = search (rules, past)
