-- `probe::fit` answers whether the rules fit. Assumes nothing.
use mathlib.Core.Path.{ap}
use mathlib.Core.Bool.{not}
use mathlib.Core.Bool.{true≢false}
use mathlib.Core.Path.{sym}
use Rattle.questions.proofs.Passes.{refused, granted}
use Rattle.probe.proofs.fit.Goals as goal

pub returns-then-not-slots_well_formed : goal.returns-then-not-slots_well_formed
returns-then-not-slots_well_formed c = (
  (λ t. absurd (true≢false (sym t))),
  (λ F. absurd (refused _ c.slots_well_formed.ensures (ap not c.if-not-slots_well_formed.true) F.slots)),
)

pub returns : goal.returns
returns c = (
  (λ t. record {
    slots = granted _ c.slots_well_formed.ensures (ap not c.if-not-slots_well_formed.false);
    single = c.no_two_equal.ensures.0 t;
  }),
  (λ F. c.no_two_equal.ensures.1 F.single),
)
