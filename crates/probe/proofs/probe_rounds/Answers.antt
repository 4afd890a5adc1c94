-- `probe::probe_rounds` meets its contract. Assumes nothing.
use mathlib.Core.Path.{ap}
use mathlib.Core.Bool.{not}
use Rattle.questions.proofs.Passes.{refused, granted}
use Rattle.strata.proofs.Answer.{answer-acyclic}
use Rattle.model.proofs.Sizes.{rounds-sized}
use Rattle.sound.proofs.Soundness.{well-formed-bounded}
use Rattle.probe.specs.Probes.{RulesFit, not_fit, no_strata, counted}
use Rattle.probe.proofs.probe_rounds.Goals as goal

pub returns-then-not-fit : goal.returns-then-not-fit
returns-then-not-fit c = rw c.no_rounds.ensures (not_fit (refused _ c.fit.ensures (ap not c.if-not-fit.true)))

pub strata-requires : goal.strata-requires
strata-requires c =
    let fits : RulesFit c.args.table = granted _ c.fit.ensures (ap not c.if-not-fit.false) in
    well-formed-bounded _ fits.slots

pub returns-in_default : goal.returns-in_default
returns-in_default c =
    let fits : RulesFit c.args.table = granted _ c.fit.ensures (ap not c.if-not-fit.false) in
    rw c.no_rounds-in_default.ensures (no_strata fits c.in_default.ensures)

pub in_atoms-search-requires : goal.in_atoms-search-requires
in_atoms-search-requires c =
    let fits : RulesFit c.args.table = granted _ c.fit.ensures (ap not c.if-not-fit.false) in
    record {
      bounded = well-formed-bounded _ fits.slots;
      exact = c.in-Some.ensures;
    }

pub returns : goal.returns
returns c =
    let fits : RulesFit c.args.table = granted _ c.fit.ensures (ap not c.if-not-fit.false) in
    counted _ fits (answer-acyclic _ _ c.in-Some.ensures)
    (rounds-sized c.in_atoms-search.result _ c.in_atoms-search.type_inv) c.in_atoms-search.ensures.rounds
