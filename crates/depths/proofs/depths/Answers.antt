-- `depths::depths` meets its contract: by what the rounds keep. Assumes nothing.
use Prim.Native.Nat.{◌<◌}
use native.Mathlib.Omega.{arith}
use mathlib.Core.Path.{refl}
use Rattle.theory.specs.Limits.{document}
use Rattle.table.specs.Words.{rules_of}
use Rattle.table.proofs.Words.{rules-length}
use Rattle.table.proofs.SlotsInTurn.{slot-at-below}
use Rattle.depths.proofs.Relaxing.{read_at, rounds-start, pass-start, pass-next, round-end}
use Rattle.depths.proofs.Relaxing.{rounds-few, rounds-end}
use borrow.Author.Rules.{rules}
use Rattle.depths.proofs.depths.Goals as goal
use Rattle.depths.proofs.depths.Goals.{After-slot_at-s}

pub loop-lowered-init : goal.loop-lowered-init
loop-lowered-init c = c.lower_first.ensures

pub loop-i-init : goal.loop-i-init
loop-i-init c =
    let at = c.loop-lowered in
    (omega arith, pass-start _ _ _ _ _ _ at.lowered c.loop-lowered-test.true at.invariant)

pub lower_first-requires : goal.lower_first-requires
lower_first-requires c =
    (c.requires.0, c.requires.1, rounds-start _ _ _)

-- the slot come to is one of the table's
below : (c : After-slot_at-s) → c.slot_at-s.result < document.slots
below c = slot-at-below _ _ _ _ c.slot_at-s.ensures c.loop-i-test.true

pub rule_at-rule-requires : goal.rule_at-rule-requires
rule_at-rule-requires c = below c

pub loop-i-preserved : goal.loop-i-preserved
loop-i-preserved c =
    let read = c.rule_at-rule in (
      omega arith,
      pass-next (rules_of c.args.table.now) _ _ c.requires.0 c.requires.1 _ _ c.loop-i.i _ c.loop-i.lowered
          c.loop-i.invariant.1 _ c.slot_at-s.ensures read.result
          (read_at (rules_of c.args.table.now) _ _ read.ensures) _ _ c.lower-fell.ensures _ refl,
    )

pub overflow_add-round : goal.overflow_add-round
overflow_add-round c =
    let at = c.loop-lowered in
    let l = rounds-few _ _ _ _ _ at.lowered c.loop-lowered-test.true at.invariant in
    search rules

pub loop-lowered-smaller : goal.loop-lowered-smaller
loop-lowered-smaller c =
    let at = c.loop-lowered in
    let l = rounds-few _ _ _ _ _ at.lowered c.loop-lowered-test.true at.invariant in
    omega arith

pub loop-lowered-preserved : goal.loop-lowered-preserved
loop-lowered-preserved c =
    let at = c.loop-i in
    round-end (rules_of c.args.table.now) _ _ c.requires.0 c.requires.1 _ (rules-length _) _ _ at.i _
    c.loop-i-test.false _ at.invariant.1

pub returns : goal.returns
returns c = rounds-end _ _ _ _ _ c.loop-lowered.lowered c.loop-lowered-test.false c.loop-lowered.invariant
