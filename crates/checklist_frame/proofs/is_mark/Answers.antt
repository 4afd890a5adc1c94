-- `checklist_frame::is_mark` tells whether the atom is a mark of one of n files. Assumes nothing.
use native.Mathlib.Omega.{arith}
use mathlib.Core.Path.{sym}
use Rattle.theory.proofs.Lists.{unless}
use Rattle.checklist_frame.proofs.Frames.{is_mark-numbers}
use Rattle.checklist_frame.proofs.is_mark.Goals as goal

pub returns-then-atom-n : goal.returns-then-atom-n
returns-then-atom-n c =
    let a = c.args in
    sym (unless _ (λ t. omega (arith, ((is_mark-numbers a.n a.atom.0).0 t).0, c.if-atom-n.true)))

pub returns-then-atom-eq0 : goal.returns-then-atom-eq0
returns-then-atom-eq0 c =
    let a = c.args in
    let e = c.if-atom-eq0.true in
    sym (unless _ (λ t. ((is_mark-numbers a.n a.atom.0).0 t).1 (omega arith)))

pub returns : goal.returns
returns c =
    let a = c.args in
    sym ((is_mark-numbers a.n a.atom.0).1 (omega (arith, c.if-atom-n.false), c.if-atom-eq0.false))
