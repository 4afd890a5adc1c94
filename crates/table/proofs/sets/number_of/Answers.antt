-- `table::sets::number_of` meets its contract. Past the end the number reads as 0. Assumes nothing.
use Rattle.table.proofs.Entries.{past}
use borrow.Author.Rules.{rules}
use Rattle.table.proofs.sets.number_of.Goals as goal

pub returns-else-i-s : goal.returns-else-i-s
returns-else-i-s c = search (rules, past)
