-- `file_questions::counted` meets its contract. Assumes nothing.
use Rattle.file_questions.proofs.Tests.{counted-inner, counted-over, counted-some, counted_none}
use borrow.Author.Rules.{rules}
use Rattle.file_questions.proofs.counted.Goals as goal

pub returns-then-index-blocks : goal.returns-then-index-blocks
returns-then-index-blocks c = counted-inner _ _ _ (search rules)

pub returns-then-count-gt-PLACES : goal.returns-then-count-gt-PLACES
returns-then-count-gt-PLACES c = counted-over _ _ _ (search rules) (search rules)

pub returns-then-count-gt0 : goal.returns-then-count-gt0
returns-then-count-gt0 c = counted-some _ _ _ (search rules) (search rules) (search rules)

pub returns : goal.returns
returns c = counted_none _ _ _ (search rules) (search rules)
