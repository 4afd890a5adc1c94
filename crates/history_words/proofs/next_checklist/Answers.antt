-- `history_words::next_checklist` meets its contract. Assumes nothing.
use native.Mathlib.Omega.{arith}
use Rattle.history_words.specs.Reading.{neither, opens, sent, skipped, withdrawn}
use Rattle.history_words.proofs.next_checklist.Goals as goal

pub returns-in_default : goal.returns-in_default
returns-in_default c = neither (λ l m. omega arith)

pub returns-in-3 : goal.returns-in-3
returns-in-3 c = opens (omega arith)

pub returns-in-4 : goal.returns-in-4
returns-in-4 c = sent (omega arith)

pub returns-in-5 : goal.returns-in-5
returns-in-5 c = skipped (omega arith)

pub returns-in-6 : goal.returns-in-6
returns-in-6 c = withdrawn (omega arith)
