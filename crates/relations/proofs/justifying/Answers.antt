-- `relations::justifying` meets its contract. Assumes nothing.
-- The loop keeps: the places below `i` are filled.
use native.Mathlib.Omega.{arith}
use mathlib.Core.Path.{sym, ◌∙◌, ap}
use lib.Dec.{eqb}
use Rattle.theory.specs.Rules.{passes}
use Rattle.table.specs.declared.Rule.{Rule}
use Rattle.table.specs.Rules.{slot_of, past_rule}
use Rattle.table.specs.Words.{rules_of}
use Rattle.table.proofs.Words.{rules-length}
use Rattle.table.proofs.Copies.{copied-start, copied_next, copied_all}
use Rattle.relations.proofs.Passes.{justified}
use Rattle.relations.proofs.justifying.Goals as goal

pub loop-i-init : goal.loop-i-init
loop-i-init c = copied-start _ _ _ (sym (rules-length c.args.table.now))

pub loop-i-preserved : goal.loop-i-preserved
loop-i-preserved c =
    let at = c.loop-i in
    copied_next _ _ _ at.i past_rule _ (omega (arith, rules-length c.args.table.now)) at.invariant
    (c.has_head.ensures
    ∙ ap (λ (z : Rule). passes (λ q. eqb q.head c.args.a.0) (slot_of z)) c.rule_at-rule.ensures)

pub returns : goal.returns
returns c =
    let table = c.args.table.now in
    let at = c.loop-i in
    justified (rules_of table) _ _ (copied_all _ _ _ at.i (omega (arith, rules-length table)) at.invariant)
