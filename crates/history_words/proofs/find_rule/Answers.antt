-- `history_words::find_rule` meets its contract. Assumes nothing.
use native.Mathlib.Omega.{arith}
use Rattle.history_words.specs.Reading.{cut, whole}
use Rattle.history_words.proofs.find_rule.Goals as goal

pub returns-then-at-n : goal.returns-then-at-n
returns-then-at-n c = cut (omega arith)

pub returns-then-n-at-lt3 : goal.returns-then-n-at-lt3
returns-then-n-at-lt3 c = cut (omega arith)

pub returns-then-n-from : goal.returns-then-n-from
returns-then-n-from c = cut (omega arith)

pub returns-then-n-middle : goal.returns-then-n-middle
returns-then-n-middle c = cut (omega arith)

pub returns : goal.returns
returns c = whole (omega arith)
