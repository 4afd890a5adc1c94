-- `reading::occurs` meets its contract. The loop keeps: what is left of the slots answers for all. Assumes nothing.
use native.Mathlib.Omega.{arith}
use mathlib.Core.Path.{refl, sym, ◌∙◌}
use Rattle.table.specs.Words.{rules_of}
use Rattle.table.proofs.Words.{rules-length}
use Rattle.reading.proofs.OneAtom.{occurs-hit, occurs-next, occurs-over}
use Rattle.reading.proofs.occurs.Goals as goal

pub loop-i-init : goal.loop-i-init
loop-i-init c = refl

pub returns-then-occurs_in : goal.returns-then-occurs_in
returns-then-occurs_in c =
    let w = c.args.table.now in
    sym (occurs-hit (rules_of w) _ _ (omega (arith, rules-length w, c.loop-i-test.true)) _ c.rule_at-rule.ensures _
    c.occurs_in.ensures c.if-occurs_in.true)
    ∙ c.loop-i.invariant

pub loop-i-preserved : goal.loop-i-preserved
loop-i-preserved c =
    let w = c.args.table.now in
    sym (occurs-next (rules_of w) _ _ (omega (arith, rules-length w, c.loop-i-test.true)) _ c.rule_at-rule.ensures
    _ c.occurs_in.ensures c.if-occurs_in.false)
    ∙ c.loop-i.invariant

pub returns : goal.returns
returns c =
    let w = c.args.table.now in
    sym (occurs-over (rules_of w) _ c.loop-i.i (omega (arith, rules-length w, c.loop-i-test.false)))
    ∙ c.loop-i.invariant
