-- `probe::probe_labels` meets its contract. Assumes nothing.
use mathlib.Core.Path.{ap}
use mathlib.Core.Bool.{not}
use Rattle.questions.proofs.Passes.{refused, granted}
use Rattle.sound.proofs.Soundness.{well-formed-bounded}
use Rattle.probe.specs.Probes.{RulesFit, unfit, cyclic, labelled}
use Rattle.probe.proofs.probe_labels.Goals as goal
use Rattle.probe.proofs.probe_labels.Goals.{Else-not-fit}

-- what the test tells
fits : (c : Else-not-fit) → RulesFit c.args.table
fits c = granted _ c.fit.ensures (ap not c.if-not-fit.false)

pub returns-then-not-fit : goal.returns-then-not-fit
returns-then-not-fit c = unfit (refused _ c.fit.ensures (ap not c.if-not-fit.true))

pub relabel-requires : goal.relabel-requires
relabel-requires c = well-formed-bounded _ (fits c.before.before).slots

pub returns-then-not-relabel : goal.returns-then-not-relabel
returns-then-not-relabel c =
    cyclic (fits c.before.before.before.before) (c.relabel.ensures.cyclic c.if-not-relabel.true).0

pub returns : goal.returns
returns c =
    let w = c.relabel.ensures.acyclic c.if-not-relabel.false in
    labelled _ (fits c.before.before.before.before) w.0 c.relabel.ensures.rules c.relabel.ensures.sized
    w.1
