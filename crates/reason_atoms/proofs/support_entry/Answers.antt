-- `reason_atoms::support_entry` meets its contract. Assumes nothing.
use Rattle.table.proofs.Entries.{past}
use borrow.Author.Rules.{rules}
use Rattle.reason_atoms.proofs.support_entry.Goals as goal

pub returns-else-k-s : goal.returns-else-k-s
returns-else-k-s c = search (rules, past)
