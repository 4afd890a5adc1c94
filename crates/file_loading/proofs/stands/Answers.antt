-- `file_loading::stands` meets its contract. Assumes nothing.
use Rattle.file_loading.proofs.Slots.{stands-behind, stands-past, stands-well}
use borrow.Author.Rules.{rules}
use Rattle.file_loading.proofs.stands.Goals as goal

pub returns-then-s-least : goal.returns-then-s-least
returns-then-s-least c = stands-behind _ _ _ (search rules)

pub returns-then-s-ge-SLOTS : goal.returns-then-s-ge-SLOTS
returns-then-s-ge-SLOTS c = stands-past _ _ _ (search rules)

pub returns : goal.returns
returns c = stands-well _ _ _ (search rules) (search rules) _ c.well_formed-2.ensures
