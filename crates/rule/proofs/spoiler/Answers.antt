-- `rule::spoiler` meets its contract. Assumes nothing.
-- The positive part is read first, and the negative part only where the walk went past the positive part.
use mathlib.Core.Path.{refl, ◌∙◌, ap}
use Rattle.table.specs.Rules.{spoiler_of}
use Rattle.theory.specs.Limits.{document}
use Rattle.table.proofs.Entries.{spoiler-needs, spoiler-blocked, spoiler-nothing}
use Rattle.rule.proofs.spoiler.Goals as goal

pub returns-in-Some : goal.returns-in-Some
returns-in-Some c =
    spoiler-needs c.args.rule document.entries c.well_formed.0.1.1.1.1.1.1.0.1.0.1
    _ c.positive_end-p.ensures _ c.negative_end-n.ensures
    _ _ c.in-Some.ensures.1 c.in-Some.ensures.0

pub returns : goal.returns
returns c =
    spoiler-blocked c.args.rule document.entries c.well_formed.0.1.1.1.1.1.1.0.1.0.1
    _ c.positive_end-p.ensures _ c.negative_end-n.ensures
    _ _ refl c.in_default.ensures _ c.in_ok-j.ensures.1 c.in_ok-j.ensures.0

pub returns-in_err-j : goal.returns-in_err-j
returns-in_err-j c =
    ap spoiler_of c.from_residual.ensures
    ∙ spoiler-nothing c.args.rule document.entries c.well_formed.0.1.1.1.1.1.1.0.1.0.1
    _ c.positive_end-p.ensures _ c.negative_end-n.ensures
    _ _ refl c.in_default.ensures _ refl c.in_err-j.ensures
