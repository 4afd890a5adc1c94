-- The cycle of calls {gather}. Assumes nothing.
use native.Mathlib.Omega.{arith}
use mathlib.Core.Path.{sym, ◌∙◌}
use Rattle.reason_atoms.proofs.Gathering.{gathering-start, gathering-deep, gathering-seen}
use Rattle.reason_atoms.proofs.Gathering.{gathering-called, gathering-end}
use Rattle.reason_atoms.proofs.+gather.Goals as goal

pub loop-j-init : goal.loop-j-init
loop-j-init t c = rw c.mark.ensures (gathering-start _ _ _ _ _ c.args.seen.now)

pub loop-j-preserved : goal.loop-j-preserved
loop-j-preserved t c =
    gathering-called _ _ _ _ _ _ c.loop-j.j (omega arith) _ c.loop-j.invariant _ _ c.support_entry-x.ensures
    c.number_of-d.ensures _ c.gather.ensures

pub loop-j-preserved-then-has : goal.loop-j-preserved-then-has
loop-j-preserved-then-has t c =
    gathering-seen _ _ _ _ _ _ c.loop-j.j (omega arith) _ c.loop-j.invariant _ _ c.support_entry-x.ensures
    c.number_of-d.ensures (sym c.has.ensures ∙ c.if-has.true)

pub loop-j-preserved-then-d-depth : goal.loop-j-preserved-then-d-depth
loop-j-preserved-then-d-depth t c =
    gathering-deep _ _ _ _ _ _ c.loop-j.j (omega arith) _ c.loop-j.invariant _ _ c.support_entry-x.ensures
    c.number_of-d.ensures c.if-d-depth.true

pub returns : goal.returns
returns t c = gathering-end _ _ _ _ _ _ c.loop-j.j _ (omega arith) c.loop-j.invariant
