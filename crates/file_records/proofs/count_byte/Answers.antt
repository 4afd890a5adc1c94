-- `file_records::count_byte` meets its contract. Assumes nothing.
use Rattle.file_records.proofs.Records.{count-plain, count-marked}
use borrow.Author.Rules.{rules}
use Rattle.file_records.proofs.count_byte.Goals as goal

pub returns-then-state-lt2 : goal.returns-then-state-lt2
returns-then-state-lt2 c = (let s = c.args in count-plain s.state s.positives (search rules))

pub returns-else-state-lt2 : goal.returns-else-state-lt2
returns-else-state-lt2 c = (let s = c.args in count-marked s.state s.positives (search rules))
