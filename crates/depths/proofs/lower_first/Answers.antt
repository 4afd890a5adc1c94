-- `depths::lower_first` keeps what rounds have found, whatever slots the hint names. Assumes nothing.
use Rattle.table.specs.Words.{rules_of}
use Rattle.depths.proofs.Relaxing.{visit}
use Rattle.depths.proofs.lower_first.Goals as goal

pub loop-s-init : goal.loop-s-init
loop-s-init c = c.requires.2

pub loop-s-preserved : goal.loop-s-preserved
loop-s-preserved c =
    visit (rules_of c.args.table.now) _ _ c.requires.0 c.requires.1 _ _ c.loop-s.invariant _ _
    c.rule_in-rule.ensures _ _ c.lower.ensures
