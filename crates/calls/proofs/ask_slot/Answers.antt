-- `calls::ask_slot` meets its contract: question 15 first. Assumes nothing.
use mathlib.Core.Path.{ap}
use mathlib.Core.Bool.{not}
use Rattle.questions.proofs.Passes as sound
use Rattle.calls.specs.Asking.{unsound}
use Rattle.calls.proofs.ask_slot.Goals as goal

pub returns-then-not-sound : goal.returns-then-not-sound
returns-then-not-sound c = unsound (sound.refused _ c.sound.ensures (ap not c.if-not-sound.true))

pub slot_asked-requires : goal.slot_asked-requires
slot_asked-requires c = sound.granted _ c.sound.ensures (ap not c.if-not-sound.false)
