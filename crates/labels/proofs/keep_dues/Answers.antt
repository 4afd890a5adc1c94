-- `labels::keep_dues` writes what is due into each slot, from the lowest on. Assumes nothing.
use native.Mathlib.Omega.{arith}
use mathlib.Core.Path.{◌≡◌, subst}
use Rattle.theory.specs.Limits.{document}
use Rattle.table.specs.Sets.{member, number}
use Rattle.labels.specs.Keeping.{KeptBelow}
use Rattle.labels.proofs.Keeping.{walked_start, walked_next}
use Rattle.labels.proofs.keep_dues.Goals as goal

pub loop-i-init : goal.loop-i-init
loop-i-init c = (omega arith, walked_start _ _ _)

pub loop-i-preserved : goal.loop-i-preserved
loop-i-preserved c = (
  omega arith,
  walked_next _ _ _ c.requires c.loop-i.i _ _ c.loop-i.invariant.1 _ c.rule_at-rule.ensures
      (omega (arith, c.loop-i-test.true)) c.keep.ensures.1 _ _ c.due_in-due.ensures _
      c.keep.ensures.0,
)

pub returns : goal.returns
returns c =
    let s = c.args in
    let t = c.loop-i in
    let e : t.i ≡ document.slots = omega (arith, t.invariant.0, c.loop-i-test.false) in
    subst (λ n. KeptBelow s.table.now (member s.model.now) (number s.depths.now) n t.table) e
    t.invariant.1.kept
