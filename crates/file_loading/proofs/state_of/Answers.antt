-- `file_loading::state_of` meets its contract. Assumes nothing.
use Rattle.file_loading.proofs.Slots.{state-plain, state-marked}
use borrow.Author.Rules.{rules}
use Rattle.file_loading.proofs.state_of.Goals as goal

pub returns-then-count-lt-MARK : goal.returns-then-count-lt-MARK
returns-then-count-lt-MARK c = state-plain c.args.count (search rules)

pub returns-else-count-lt-MARK : goal.returns-else-count-lt-MARK
returns-else-count-lt-MARK c = state-marked c.args.count (search rules)
