-- `sheet_answers::tell_change` meets its contract. Assumes nothing.
use native.Mathlib.Omega.{arith}
use mathlib.Core.Path.{sym, ◌∙◌, ap}
use Rattle.sheet_printing.specs.Printed.{refusal_line}
use Rattle.sheet_meaning.specs.Lines.{tell_change}
use Rattle.sheet_answers.proofs.Told.{wrote-same}
use Rattle.sheet_answers.proofs.tell_change.Goals as goal

pub returns-in-Ok : goal.returns-in-Ok
returns-in-Ok c =
    wrote-same (ap (tell_change _ _ _) (sym c.in-Ok.is))
    (c.write_named.ensures.fits (omega arith))

pub returns-in-Err : goal.returns-in-Err
returns-in-Err c =
    wrote-same
    (ap (refusal_line _) c.refusal_number.ensures ∙ ap (tell_change _ _ _) (sym c.in-Err.is))
    (c.write_refusal.ensures.fits (omega arith))
