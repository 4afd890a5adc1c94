-- `history_replay::step` meets its contract: of each call, the step in which it was made, and the one in which it was
-- read. Assumes nothing.
use mathlib.Core.Path.{refl}
use Rattle.history.specs.Claim.{adds, removes, replaces, mutes, loads}
use Rattle.history_replay.proofs.Stepping.{checklist-step, step-made}
use Rattle.history_replay.proofs.step.Goals as goal

pub returns-in-Remove : goal.returns-in-Remove
returns-in-Remove c =
    step-made _ _ _ _ _ c.next_call.ensures _ _ _ _ _ _ _ c.in_ok-next.was c.in-Remove.is refl
    (removes c.remove.ensures) c.accepted.ensures

pub returns-in-Add : goal.returns-in-Add
returns-in-Add c =
    step-made _ _ _ _ _ c.next_call.ensures _ _ _ _ _ _ _ c.in_ok-next.was c.in-Add.is refl
    (adds c.add.ensures) c.added.ensures

pub returns-in-Load : goal.returns-in-Load
returns-in-Load c =
    step-made _ _ _ _ _ c.next_call.ensures _ _ _ _ _ _ _ c.in_ok-next.was c.in-Load.is refl
    (loads c.load.ensures) c.accepted-in-Load.ensures

pub returns-in-Checklist : goal.returns-in-Checklist
returns-in-Checklist c =
    step-made _ _ _ _ _ c.next_call.ensures _ _ _ _ _ _ _ c.in_ok-next.was c.in-Checklist.is refl
    (checklist-step _ _ _ c.call_checklist.ensures) c.accepted-in-Checklist.ensures

pub returns-in-Replace : goal.returns-in-Replace
returns-in-Replace c =
    step-made _ _ _ _ _ c.next_call.ensures _ _ _ _ _ _ _ c.in_ok-next.was c.in-Replace.is refl
    (replaces c.replace.ensures) c.accepted-in-Replace.ensures

pub returns-in-Mute : goal.returns-in-Mute
returns-in-Mute c =
    step-made _ _ _ _ _ c.next_call.ensures _ _ _ _ _ _ _ c.in_ok-next.was c.in-Mute.is refl
    (mutes c.mute.ensures) c.accepted-in-Mute.ensures
