-- `replacing::replace` ends as its contract says: question 15 first. Assumes nothing.
use mathlib.Core.Path.{ap}
use mathlib.Core.Bool.{not}
use Rattle.questions.proofs.Passes.{refused, granted}
use Rattle.calls.specs.Ends as contract
use Rattle.replacing.proofs.replace.Goals as goal

pub returns-then-not-sound : goal.returns-then-not-sound
returns-then-not-sound c = contract.unsound (refused _ c.sound.ensures (ap not c.if-not-sound.true))

pub replace_in_sound-requires : goal.replace_in_sound-requires
replace_in_sound-requires c = granted _ c.sound.ensures (ap not c.if-not-sound.false)
