-- `file_questions::whole` meets its contract. Assumes nothing.
use Rattle.file_questions.proofs.Tests.{whole-uneven, whole-short, whole-last}
use borrow.Author.Rules.{rules}
use Rattle.file_questions.proofs.whole.Goals as goal

pub returns-then-n-ne0 : goal.returns-then-n-ne0
returns-then-n-ne0 c = whole-uneven _ c.if-n-ne0.true

pub returns-then-n-lt-BLOCK : goal.returns-then-n-lt-BLOCK
returns-then-n-lt-BLOCK c = whole-short _ c.if-n-ne0.false (search rules)

pub returns : goal.returns
returns c = whole-last _ c.if-n-ne0.false (search rules)
