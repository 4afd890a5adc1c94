-- `repercussions::reached` meets its contract. Assumes nothing.
-- The loop keeps: the slots below `i` have their edges.
use native.Mathlib.Omega.{arith}
use mathlib.Core.Path.{sym, ◌∙◌, ap}
use Rattle.table.specs.Rules.{active_in}
use Rattle.table.specs.Words.{rules_of}
use Rattle.table.proofs.Programs.{active-place, active-length}
use Rattle.table.proofs.Words.{rules-length}
use Rattle.repercussions.proofs.Edges.{giving-start, giving-next, giving-over}
use borrow.Author.Rules.{rules}
use Rattle.repercussions.proofs.reached.Goals as goal

pub loop-i-init : goal.loop-i-init
loop-i-init c = (omega arith, giving-start _ _ _ _ _ _ (search rules) (search rules))

pub add_slot-count-requires : goal.add_slot-count-requires
add_slot-count-requires c =
    let at = c.loop-i in
    omega (arith, at.invariant.1.few)

pub loop-i-preserved : goal.loop-i-preserved
loop-i-preserved c =
    let at = c.loop-i in
    let rows = rules_of c.args.table.now in (
      omega arith,
      giving-next _ _ _ _ at.i at.invariant.1
          (rw (active-place rows at.i ∙ ap active_in (sym c.rule_at-rule.ensures)) c.add_slot-count.ensures),
    )

pub slice_bounds-reach-end : goal.slice_bounds-reach-end
slice_bounds-reach-end c = (let w = c.loop-i.invariant.1.size_from in search rules)

pub slice_bounds-reach-end-2 : goal.slice_bounds-reach-end-2
slice_bounds-reach-end-2 c = (let w = c.loop-i.invariant.1.size_to in search rules)

pub returns : goal.returns
returns c =
    let table = c.args.table.now in
    giving-over _ _ _ _ c.requires.0 c.requires.1 c.loop-i.i c.reach.result
    (omega (arith, active-length (rules_of table), rules-length table)) (omega (arith, c.loop-i.invariant.1.few))
    c.loop-i.invariant.1
    c.reach.ensures
