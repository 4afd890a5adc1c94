-- `strata::raise` meets its contract. Assumes nothing.
use Rattle.strata.proofs.Numbers.{keeps, raises}
use borrow.Author.Rules.{rules}
use Rattle.strata.proofs.raise.Goals as goal

pub returns-then-n-eq0 : goal.returns-then-n-eq0
returns-then-n-eq0 c = keeps _ _ _ (search rules)

pub number_at-requires : goal.number_at-requires
number_at-requires c = c.requires (search rules)

pub returns-then-n-number_at : goal.returns-then-n-number_at
returns-then-n-number_at c = keeps _ _ _ (search rules)

pub returns : goal.returns
returns c = raises _ _ _ (search rules) _ (search rules)
