-- `occurring::occurring` meets its contract. Assumes nothing.
use native.Mathlib.Omega.{arith}
use mathlib.Core.Path.{sym, ◌∙◌, ap}
use Rattle.table.specs.Rules.{slot_of}
use Rattle.table.specs.Words.{rules_of}
use Rattle.occurring.proofs.Marks.{marking-start, marking-next, marking-end}
use Rattle.table.proofs.Programs.{program-at, program-length}
use Rattle.table.proofs.Words.{rules-length}
use Rattle.occurring.proofs.occurring.Goals as goal

pub loop-i-init : goal.loop-i-init
loop-i-init c = (omega arith, marking-start _ _)

pub loop-i-preserved : goal.loop-i-preserved
loop-i-preserved c =
    let at = c.loop-i in
    let rows = rules_of c.args.table.now in
    let rule = c.rule_at-rule.result in (
      omega arith,
      marking-next _ _ at.i (slot_of rule) _ _
          (omega (arith, program-length rows, rules-length c.args.table.now))
          (program-at rows at.i ∙ ap slot_of (sym c.rule_at-rule.ensures))
          at.invariant.1 c.mark_rule.ensures,
    )

pub returns : goal.returns
returns c =
    let table = c.args.table.now in
    let at = c.loop-i in
    marking-end _ _ at.i _ c.requires
    (omega (arith, program-length (rules_of table), rules-length table)) at.invariant.1
