-- `sheet_answers::tell_reason` meets its contract. Assumes nothing.
use native.Mathlib.Omega.{arith}
use mathlib.Core.Path.{sym, ◌∙◌, ap}
use lib.Seq.{length-take-le}
use Rattle.calls.specs.Answers.{ListAnswer}
use Rattle.sheet_printing.specs.Printed.{refusal_line}
use Rattle.sheet_meaning.specs.Lines.{tell_reason}
use Rattle.sheet_answers.proofs.Told.{wrote-same, counted}
use Rattle.sheet_answers.proofs.tell_reason.Goals as goal

pub slice_bounds-write_why-end : goal.slice_bounds-write_why-end
slice_bounds-write_why-end c =
    let few = counted c.args.answer c.args.slots.now c.requires.0 c.in-Ok.is in
    sym (length-take-le _ c.args.slots.now few.0)

pub returns-in-Ok : goal.returns-in-Ok
returns-in-Ok c =
    let few = counted c.args.answer c.args.slots.now c.requires.0 c.in-Ok.is in
    let size = length-take-le _ c.args.slots.now few.0 in
    wrote-same
    (ap (λ (a : ListAnswer). tell_reason c.args.line a c.args.slots.now) (sym c.in-Ok.is))
    (c.write_why.ensures.fits (omega (arith, few.1, size)))

pub returns-in-Err : goal.returns-in-Err
returns-in-Err c =
    wrote-same
    (ap (refusal_line _) c.refusal_number.ensures
    ∙ ap (λ (a : ListAnswer). tell_reason c.args.line a c.args.slots.now) (sym c.in-Err.is))
    (c.write_refusal.ensures.fits (omega arith))
