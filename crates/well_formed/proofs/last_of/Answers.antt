-- `well_formed::last_of` meets its contract. Past the end the number reads as 0. Assumes nothing.
use Rattle.table.proofs.Entries.{past}
use borrow.Author.Rules.{rules}
use Rattle.well_formed.proofs.last_of.Goals as goal

pub returns-else-k-s : goal.returns-else-k-s
returns-else-k-s c = search (rules, past)
