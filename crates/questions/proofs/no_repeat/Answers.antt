-- `questions::no_repeat` meets its contract. Assumes nothing.
-- The loop keeps: the rest of the list answers for the whole list.
use Prim.Native.Nat.{◌+◌}
use mathlib.Core.Path.{sym, ◌∙◌}
use Rattle.table.proofs.Walks.{distinct-over, distinct-next, distinct-stop}
use Rattle.questions.proofs.Passes.{any_rest}
use Rattle.questions.proofs.no_repeat.Goals as goal

pub returns-then-contains : goal.returns-then-contains
returns-then-contains c =
    let told = c.contains.ensures.value ∙ any_rest _ c.args.list.now (c.loop-i.i + 1) in
    sym (distinct-stop c.args.list.now c.loop-i.i _ told c.loop-i-test.true c.if-contains.true) ∙ c.loop-i.invariant

pub loop-i-preserved : goal.loop-i-preserved
loop-i-preserved c =
    let told = c.contains.ensures.value ∙ any_rest _ c.args.list.now (c.loop-i.i + 1) in
    sym (distinct-next c.args.list.now c.loop-i.i _ told c.loop-i-test.true c.if-contains.false) ∙ c.loop-i.invariant

pub returns : goal.returns
returns c = sym (distinct-over _ _ c.loop-i-test.false) ∙ c.loop-i.invariant
