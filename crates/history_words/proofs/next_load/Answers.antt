-- `history_words::next_load` meets its contract. Assumes nothing.
use native.Mathlib.Omega.{arith}
use Rattle.history_words.proofs.Reading.{load-short, load-backward, load_past, reads_load}
use Rattle.history_words.proofs.next_load.Goals as goal

pub returns-then-at-n : goal.returns-then-at-n
returns-then-at-n c = load-short _ _ _ (omega arith)

pub returns-then-n-at-lt3 : goal.returns-then-n-at-lt3
returns-then-n-at-lt3 c = load-short _ _ _ (omega arith)

pub returns-then-from-to : goal.returns-then-from-to
returns-then-from-to c = load-backward _ _ _ (omega arith)

pub returns-then-to-files : goal.returns-then-to-files
returns-then-to-files c = load_past _ _ _ (omega arith)

pub returns : goal.returns
returns c = reads_load _ _ _ (omega arith) (omega arith) (omega arith)
