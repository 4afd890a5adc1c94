-- `muting::mute` ends as its contract says: question 15 first. Assumes nothing.
use Rattle.theory.proofs.Lists.{clash}
use Rattle.calls.specs.Ends as contract
use Rattle.muting.proofs.mute.Goals as goal

pub returns-then-not-sound : goal.returns-then-not-sound
returns-then-not-sound c = contract.unsound (λ S. clash (c.sound.ensures.1 S) c.if-not-sound.true)

pub mute_in_sound-requires : goal.mute_in_sound-requires
mute_in_sound-requires c = c.sound.ensures.0 c.if-not-sound.false
