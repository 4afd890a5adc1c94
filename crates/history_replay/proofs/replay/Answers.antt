-- `history_replay::replay` meets its contract. Assumes nothing.
use native.Mathlib.Omega.{arith}
use Rattle.history_replay.proofs.Replaying.{going_start, going_next, going-over, going-full}
use Rattle.history_replay.proofs.replay.Goals as goal

pub loop-i-init : goal.loop-i-init
loop-i-init c = going_start _ _ _ _ c.empty-table.ensures

pub returns-in_default : goal.returns-in_default
returns-in_default c =
    going-over _ _ _ _ _ _ _ c.loop-i.invariant _ c.in_default.ensures.0 c.in_default.ensures.1

pub loop-i-preserved : goal.loop-i-preserved
loop-i-preserved c =
    going_next _ _ _ _ _ _ _ c.loop-i.invariant _ _ _ (omega arith) c.in-Some.ensures

pub returns : goal.returns
returns c = going-full _ _ _ _ _ _ _ c.loop-i.invariant (omega arith)
