-- `sound::sound` meets its contract. Assumes nothing.
use mathlib.Core.Path.{ap}
use mathlib.Core.Bool.{not}
use Rattle.theory.proofs.Lists.{is_not}
use Rattle.questions.proofs.Passes.{refused, granted}
use Rattle.sound.proofs.Soundness.{WellFormedSlots, sound-well-formed, sound-single, sound-of}
use Rattle.sound.proofs.Soundness.{well-formed-bounded}
use Rattle.sound.proofs.sound.Goals as goal
use Rattle.sound.proofs.sound.Goals.{Else-not-slots_well_formed}

-- what the first test tells
well : (c : Else-not-slots_well_formed) → WellFormedSlots c.args.table.now
well c = granted _ c.slots_well_formed.ensures (ap not c.if-not-slots_well_formed.false)

pub returns-then-not-slots_well_formed : goal.returns-then-not-slots_well_formed
returns-then-not-slots_well_formed c = is_not (λ S. refused _ c.slots_well_formed.ensures (ap not c.if-not-slots_well_formed.true) (sound-well-formed _ S))

pub certified-requires : goal.certified-requires
certified-requires c = well-formed-bounded _ (well c)

pub returns-then-not-certified : goal.returns-then-not-certified
returns-then-not-certified c = is_not (λ S. refused _ c.certified.ensures (ap not c.if-not-certified.true) S.kept)

pub returns-then-not-no_two_equal : goal.returns-then-not-no_two_equal
returns-then-not-no_two_equal c = is_not (λ S. refused _ c.no_two_equal.ensures (ap not c.if-not-no_two_equal.true) (sound-single _ S))

pub acyclic-requires : goal.acyclic-requires
acyclic-requires c = well-formed-bounded _ (well c.before.before.before.before)

pub returns : goal.returns
returns c = (
  λ u. sound-of _ (well c.before.before.before.before.before)
      (granted _ c.certified.ensures (ap not c.if-not-certified.false))
      (granted _ c.no_two_equal.ensures (ap not c.if-not-no_two_equal.false))
      (c.acyclic.ensures.0 u),
  λ S. c.acyclic.ensures.1 S.rules.acyclic,
)
