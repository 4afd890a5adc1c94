-- `history_words::next_call` meets its contract. Assumes nothing.
use mathlib.Core.Path.{refl}
use native.Mathlib.Omega.{arith}
use Rattle.theory.specs.Book.{add, replace}
use Rattle.history_words.proofs.Reading.{by_kind, end_short, reads-removal, reads-no-rule, reads-rule}
use Rattle.history_words.proofs.Reading.{reads-kind}
use Rattle.history_words.proofs.Reading.{reads-checklist}
use Rattle.history_words.proofs.next_call.Goals as goal

pub returns-then-at-n : goal.returns-then-at-n
returns-then-at-n c = end_short _ _ _ (omega arith)

pub returns-then-n-at-lt2 : goal.returns-then-n-at-lt2
returns-then-n-at-lt2 c = end_short _ _ _ (omega arith)

pub returns-in-0 : goal.returns-in-0
returns-in-0 c = reads-removal _ _ _ (omega arith) (omega arith)

pub returns-in_err-rule-in-1 : goal.returns-in_err-rule-in-1
returns-in_err-rule-in-1 c =
    rw c.from_residual.ensures
    (reads-no-rule _ _ _ _ add (by_kind _ _ _ (omega arith) 1 (omega arith)) c.in_err-rule-in-1.ensures)

pub returns-in_ok-rule-in-1 : goal.returns-in_ok-rule-in-1
returns-in_ok-rule-in-1 c =
    reads-rule _ _ _ _ add (by_kind _ _ _ (omega arith) 1 (omega arith)) _ c.in_ok-rule-in-1.ensures _ refl (λ o. o)

pub returns-in-2 : goal.returns-in-2
returns-in-2 c = reads-kind _ _ _ 2 _ (omega arith) (omega arith) c.next_load.ensures

pub returns-in_err-rule-in-7 : goal.returns-in_err-rule-in-7
returns-in_err-rule-in-7 c =
    rw c.from_residual-in_err-rule-in-7.ensures
    (reads-no-rule _ _ _ _ (replace _) (by_kind _ _ _ (omega arith) 7 (omega arith)) c.in_err-rule-in-7.ensures)

pub returns-in_ok-rule-in-7 : goal.returns-in_ok-rule-in-7
returns-in_ok-rule-in-7 c =
    reads-rule _ _ _ _ (replace _) (by_kind _ _ _ (omega arith) 7 (omega arith)) _ c.in_ok-rule-in-7.ensures _ refl
    (λ o. o)

pub returns-in-8 : goal.returns-in-8
returns-in-8 c = reads-kind _ _ _ 8 _ (omega arith) (omega arith) (c.next_mute.ensures _)

pub returns-in_default : goal.returns-in_default
returns-in_default c = reads-checklist _ _ _ _ (omega arith) (λ e. omega arith) (λ e. omega arith) (λ e. omega arith)
    (λ e. omega arith) (λ e. omega arith) c.next_checklist.ensures
