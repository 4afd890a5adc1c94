-- `add_remove::add` ends as its contract says: question 15 first. Assumes nothing.
use mathlib.Core.Path.{ap}
use mathlib.Core.Bool.{not}
use Rattle.questions.proofs.Passes.{refused, granted}
use Rattle.calls.specs.Ends as contract
use Rattle.add_remove.proofs.add.Goals as goal

pub returns-then-not-sound : goal.returns-then-not-sound
returns-then-not-sound c = contract.unsound (refused _ c.sound.ensures (ap not c.if-not-sound.true))

pub add_to_sound-requires : goal.add_to_sound-requires
add_to_sound-requires c = granted _ c.sound.ensures (ap not c.if-not-sound.false)
