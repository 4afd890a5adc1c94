-- `label_list::labels` meets its contract: 15 is asked first. Assumes nothing.
use Rattle.theory.proofs.Lists.{clash}
use Rattle.calls.specs.Ends.{unsound}
use Rattle.label_list.proofs.labels.Goals as goal

pub returns-then-not-sound : goal.returns-then-not-sound
returns-then-not-sound c =
    let told = c.sound in
    unsound (λ S. clash (told.ensures.1 S) c.if-not-sound.true)

pub labels_of_sound-requires : goal.labels_of_sound-requires
labels_of_sound-requires c =
    let told = c.sound in
    told.ensures.0 c.if-not-sound.false

pub returns : goal.returns
returns c = c.labels_of_sound.ensures
