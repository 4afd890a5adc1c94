-- `checklist_marks::remove_mark` removes the fact of a mark. Assumes nothing.
use mathlib.Core.Path.{subst}
use Rattle.std.specs.Prelude.{Ok}
use Rattle.std.proofs.lemmas.Result.{err_from_is_err_and}
use Rattle.table.specs.declared.Label.{Label}
use Rattle.calls.specs.Ends.{LabelEnds}
use Rattle.checklist.proofs.Labels.{told-label}
use Rattle.checklist_marks.specs.Parts.{removed, out, absent, refused}
use Rattle.checklist_marks.proofs.remove_mark.Goals as goal

pub returns-in_err-told : goal.returns-in_err-told
returns-in_err-told c =
    let p = err_from_is_err_and c.from_residual.result c.from_residual.ensures.1 in
    rw (p.1, p.2) (refused c.in_err-told.ensures)

pub remove_from_sound-requires : goal.remove_from_sound-requires
remove_from_sound-requires c = (told-label c.args.table.now _ c.in_ok-told.ensures).sound

pub returns-in-In : goal.returns-in-In
returns-in-In c =
    removed (subst (λ (l : Label). LabelEnds c.args.table.now c.args.atom.0 (Ok l)) c.in-In.is c.in_ok-told.ensures)
    c.remove_from_sound.ensures

pub returns-in-Absent : goal.returns-in-Absent
returns-in-Absent c =
    absent (subst (λ (l : Label). LabelEnds c.args.table.now c.args.atom.0 (Ok l)) c.in-Absent.is c.in_ok-told.ensures)

pub returns-in-Out : goal.returns-in-Out
returns-in-Out c =
    out (subst (λ (l : Label). LabelEnds c.args.table.now c.args.atom.0 (Ok l)) c.in-Out.is c.in_ok-told.ensures)
