-- `dues::depth_due` meets its contract. Assumes nothing.
use mathlib.Core.Path.{sym, ◌∙◌}
use Rattle.dues.proofs.Laws.{deep-other, deep-again, deep-first}
use Rattle.dues.proofs.depth_due.Goals as goal

pub returns-then-depth-level : goal.returns-then-depth-level
returns-then-depth-level c = deep-other _ _ _ _ c.number_of-depth.ensures _ c.if-depth-level.true

pub returns-then-has : goal.returns-then-has
returns-then-has c =
    deep-again _ _ _ _ c.number_of-depth.ensures _ c.if-depth-level.false (sym c.has.ensures ∙ c.if-has.true)

pub returns : goal.returns
returns c =
    deep-first _ _ _ _ c.number_of-depth.ensures _ c.if-depth-level.false (sym c.has.ensures ∙ c.if-has.false) _
    c.mark.ensures
