-- `history_words::next_mute` meets its contract. Assumes nothing.
use native.Mathlib.Omega.{arith}
use Rattle.history_words.proofs.Reading.{mute-short, reads-mute}
use Rattle.history_words.proofs.next_mute.Goals as goal

pub returns-then-at-n : goal.returns-then-at-n
returns-then-at-n c = mute-short _ _ (omega arith)

pub returns-then-n-at-lt3 : goal.returns-then-n-at-lt3
returns-then-n-at-lt3 c = mute-short _ _ (omega arith)

pub returns : goal.returns
returns c = reads-mute _ _ (omega arith)
