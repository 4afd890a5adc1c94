-- `checklist_frame::on_list` tells whether the file is one of n. Assumes nothing.
use native.Mathlib.Omega.{arith}
use mathlib.Core.Path.{sym}
use Rattle.theory.proofs.Lists.{unless}
use Rattle.checklist_frame.proofs.Frames.{on-list-between, between-on-list}
use Rattle.checklist_frame.proofs.on_list.Goals as goal

pub returns-then-file-eq0 : goal.returns-then-file-eq0
returns-then-file-eq0 c =
    let a = c.args in
    sym (unless _ (λ t. omega (arith, (on-list-between a.n a.file t).0, c.if-file-eq0.true)))

pub returns-then-file-n : goal.returns-then-file-n
returns-then-file-n c =
    let a = c.args in
    sym (unless _ (λ t. omega (arith, (on-list-between a.n a.file t).1, c.if-file-n.true)))

pub returns : goal.returns
returns c =
    let a = c.args in
    sym (between-on-list a.n a.file (omega (arith, c.if-file-eq0.false)) (omega (arith, c.if-file-n.false)))
