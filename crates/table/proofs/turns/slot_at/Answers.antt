-- `table::turns::slot_at` meets its contract. Assumes nothing.
use native.Mathlib.Omega.{arith}
use Rattle.theory.specs.Limits.{document}
use Rattle.table.proofs.SlotsInTurn.{slot-at-up, slot-at-down}
use Rattle.table.proofs.turns.slot_at.Goals as goal

pub returns-then-not-down : goal.returns-then-not-down
returns-then-not-down c = slot-at-up document.slots c.args.down _ c.if-not-down.true

pub returns-then-i-ge-SLOTS : goal.returns-then-i-ge-SLOTS
returns-then-i-ge-SLOTS c =
    slot-at-down document.slots c.args.down c.args.i _ c.if-not-down.false (omega arith)

pub returns : goal.returns
returns c =
    slot-at-down document.slots c.args.down c.args.i _ c.if-not-down.false (omega arith)
