-- `checklist::complete` meets its contract. Assumes nothing.
use native.Mathlib.Omega.{arith}
use mathlib.Core.Path.{sym, ap}
use Rattle.std.proofs.lemmas.Result.{err_from_is_err_and}
use Rattle.table.specs.Words.{table_of}
use Rattle.checklist_frame.proofs.Frames.{checklist-of}
use Rattle.checklist_meaning.specs.Ends.{unsound}
use Rattle.checklist.proofs.Labels.{in?}
use Rattle.checklist.proofs.Asking.{complete-told, complete-refused}
use Rattle.checklist.proofs.complete.Goals as goal

pub returns-in_default : goal.returns-in_default
returns-in_default c = unsound (λ S. sym c.in_default.ensures)

-- where a number of files was counted, it is that of the rules
pub overflow_cast-n : goal.overflow_cast-n
overflow_cast-n c = omega (arith, (checklist-of _ _ (sym c.in-Some.ensures)).high)

pub good_atom-last-requires : goal.good_atom-last-requires
good_atom-last-requires c = (checklist-of _ _ (sym c.in-Some.ensures)).high

-- The label is refused by 15 alone: the last file of a checklist
-- has an atom, which passes 10.
pub returns-in_err-told : goal.returns-in_err-told
returns-in_err-told c =
    let p = err_from_is_err_and c.from_residual.result c.from_residual.ensures.1 in
    rw (p.1, p.2)
    (complete-refused (table_of c.args.table.now) _ (sym c.in-Some.ensures) _ c.good_atom-last.ensures c.in_err-told.ensures)

pub returns-in-In : goal.returns-in-In
returns-in-In c =
    complete-told (table_of c.args.table.now) _ (sym c.in-Some.ensures) _ c.good_atom-last.ensures c.in_ok-told.ensures
    (ap in? c.in-In.is)

pub returns-in-Absent : goal.returns-in-Absent
returns-in-Absent c =
    complete-told (table_of c.args.table.now) _ (sym c.in-Some.ensures) _ c.good_atom-last.ensures c.in_ok-told.ensures
    (ap in? c.in-Absent.is)

pub returns-in-Out : goal.returns-in-Out
returns-in-Out c =
    complete-told (table_of c.args.table.now) _ (sym c.in-Some.ensures) _ c.good_atom-last.ensures c.in_ok-told.ensures
    (ap in? c.in-Out.is)
