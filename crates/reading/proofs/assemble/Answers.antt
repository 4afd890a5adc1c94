-- `reading::assemble` puts each atom's label. Assumes nothing.
use native.Mathlib.Omega.{arith}
use mathlib.Core.Path.{refl, ◌∙◌}
use lib.ListN.{length-set}
use Rattle.reading.proofs.Assembled.{one_more, label-alike}
use Rattle.reading.proofs.assemble.Goals as goal

pub loop-i-init : goal.loop-i-init
loop-i-init c = (omega arith, refl, λ k l. absurd (omega arith))

pub loop-i-preserved : goal.loop-i-preserved
loop-i-preserved c =
    let t = c.loop-i in (
      omega arith,
      simp length-set t.invariant.1,
      one_more _ t.labels t.i (omega (arith, t.invariant.1)) t.invariant.2 _
          (c.label_for.ensures
          ∙ label-alike c.has-is_in.ensures c.has-there.ensures c.number_of-depth.ensures c.slot_of-slot.ensures),
    )

pub returns : goal.returns
returns c =
    let t = c.loop-i in
    record { long = t.invariant.1; each = λ a l. t.invariant.2 a (omega (arith, c.loop-i-test.false)) }
