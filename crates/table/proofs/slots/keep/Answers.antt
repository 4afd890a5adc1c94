-- `table::slots::keep` meets its contract. Assumes nothing.
use lib.ListN.{length-set}
use borrow.Author.Rules.{rules}
use Rattle.table.proofs.slots.keep.Goals as goal

pub bounds-s-b-2 : goal.bounds-s-b-2
bounds-s-b-2 c = simp length-set (search rules)
