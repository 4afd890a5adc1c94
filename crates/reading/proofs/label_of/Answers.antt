-- `reading::label_of` meets its contract. The loop keeps: what is left of the slots tells the one that keeps a depth.
-- Assumes nothing.
use native.Mathlib.Omega.{arith}
use mathlib.Core.Path.{refl, sym, ◌∙◌}
use Rattle.table.specs.Words.{rules_of, depth_at}
use Rattle.table.proofs.Words.{rules-length}
use Rattle.reading.proofs.Seeking.{seek_hit, seek-next, seek-over}
use Rattle.reading.proofs.OneAtom.{label_kept, label-not}
use Rattle.reading.proofs.label_of.Goals as goal

pub loop-i-init : goal.loop-i-init
loop-i-init c = refl

pub returns-then-keeps : goal.returns-then-keeps
returns-then-keeps c =
    let at = c.loop-i in
    let w = c.args.table.now in
    label_kept w _ at.i _ _
    (sym at.invariant
    ∙ seek_hit (rules_of w) (depth_at w) _ _ (omega (arith, rules-length w, c.loop-i-test.true)) _
    c.rule_at-rule.ensures _ c.depth_at-depth.ensures _ c.keeps.ensures c.if-keeps.true)
    c.depth_at-depth.ensures c.label_for.ensures

pub loop-i-preserved : goal.loop-i-preserved
loop-i-preserved c =
    let w = c.args.table.now in
    sym (seek-next (rules_of w) (depth_at w) _ _ (omega (arith, rules-length w, c.loop-i-test.true)) _
    c.rule_at-rule.ensures _ c.depth_at-depth.ensures _ c.keeps.ensures c.if-keeps.false)
    ∙ c.loop-i.invariant

pub returns : goal.returns
returns c =
    let w = c.args.table.now in
    label-not w _ _ _
    (sym c.loop-i.invariant
    ∙ seek-over (rules_of w) (depth_at w) _ c.loop-i.i (omega (arith, rules-length w, c.loop-i-test.false)))
    c.occurs-there.ensures c.label_for-2.ensures
