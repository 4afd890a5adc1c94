-- `relations::following` meets its contract. Assumes nothing.
-- The loop keeps: the heads of the slots below `i` are marked.
use native.Mathlib.Omega.{arith}
use Rattle.table.specs.Words.{rules_of}
use Rattle.table.proofs.Programs.{program-length}
use Rattle.table.proofs.Words.{rules-length}
use Rattle.relations.proofs.Passes.{following-start, following-next, following-over}
use Rattle.relations.proofs.following.Goals as goal

pub loop-i-init : goal.loop-i-init
loop-i-init c = (omega arith, following-start _ _ _)

pub loop-i-preserved : goal.loop-i-preserved
loop-i-preserved c =
    let at = c.loop-i in (
      omega arith,
      following-next (rules_of c.args.table.now) _ _ at.i _ _ c.requires at.invariant.1 c.rule_at-rule.result
          c.rule_at-rule.ensures c.mark_head.ensures,
    )

pub returns : goal.returns
returns c =
    let table = c.args.table.now in
    let at = c.loop-i in
    following-over _ _ _ at.i _ (omega (arith, program-length (rules_of table), rules-length table)) at.invariant.1
