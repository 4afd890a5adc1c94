-- `table::arrays::arrays_of` meets its contract: by what the slots from the one at hand on keep. Assumes nothing.
use Prim.Native.Nat.{◌-◌}
use native.Mathlib.Omega.{arith}
use Rattle.theory.specs.Limits.{document}
use Rattle.table.specs.Words.{rules_of, depth_at}
use Rattle.table.proofs.Words.{rules-length}
use Rattle.table.proofs.LabelArrays.{read_none, read_down, read_all}
use Rattle.table.proofs.arrays.arrays_of.Goals as goal

pub loop-left-init : goal.loop-left-init
loop-left-init c =
    let w = c.args.table.now in
    (omega arith, read_none (rules_of w) (depth_at w) document.slots (omega (arith, rules-length w)))

pub loop-left-preserved : goal.loop-left-preserved
loop-left-preserved c =
    let t = c.loop-left in
    let w = c.args.table.now in
    let l = c.loop-left-test.true in (
      omega (arith, t.invariant.0),
      read_down (rules_of w) (depth_at w) (t.left - 1) t.left (omega (arith, t.invariant.0, rules-length w, l))
          (omega (arith, l)) _ c.rule_at-rule.ensures _ c.depth_at-depth.ensures _ _ _ t.invariant.1 _ _ _
          c.note.ensures,
    )

pub returns : goal.returns
returns c =
    let t = c.loop-left in
    read_all c.args.table.now t.left _ (omega (arith, c.loop-left-test.false)) t.invariant.1
