-- `checklist::lacking` tells which files lack something, by the atoms that are in. Assumes nothing.
use native.Mathlib.Omega.{arith}
use mathlib.Core.Path.{◌∙◌, ap, ap₂}
use mathlib.Core.Bool.{Bool, not, ◌||◌}
use Rattle.table.specs.Sets.{member}
use Rattle.checklist.proofs.Asking.{lacking-start, lacking-next, lacking-end}
use Rattle.checklist.proofs.lacking.Goals as goal

pub loop-i-init : goal.loop-i-init
loop-i-init c = (omega arith, lacking-start c.args.flags.now c.args.n)

pub loop-i-preserved : goal.loop-i-preserved
loop-i-preserved c =
    let flags = c.args.flags.now in
    let high = c.loop-i-test.true in (
      omega (arith, c.loop-i.invariant.0),
      lacking-next flags c.args.n c.loop-i.i c.loop-i.lacks c.loop-i.invariant.1 c.loop-i.invariant.0
          (omega (arith, high)) c.requires _
          (ap₂ (λ (x y : Bool). not x || y)
          (c.has.ensures ∙ ap (member flags) c.mark_atom-sent.ensures)
          (c.has-in-loop-i.ensures ∙ ap (member flags) c.mark_atom-skipped.ensures)),
    )

pub returns : goal.returns
returns c =
    lacking-end c.args.flags.now c.args.n c.loop-i.i c.loop-i.lacks c.loop-i.invariant.1
    (omega (arith, c.loop-i-test.false))
