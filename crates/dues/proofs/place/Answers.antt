-- `dues::place` meets its contract. Assumes nothing.
use mathlib.Core.Path.{◌≡◌, ◌∙◌, ap}
use Rattle.std.specs.Prelude.{Some}
use lib.ListN.{length}
use Rattle.theory.specs.Limits.{document}
use Rattle.dues.proofs.Laws.{place-positive, place-negative}
use Rattle.dues.proofs.place.Goals as goal

pub returns-in-Positive : goal.returns-in-Positive
returns-in-Positive c = place-positive c.args.rule _ _ _ (c.in-Some.is ∙ ap Some c.in-Positive.is)

pub returns-in-Negative : goal.returns-in-Negative
returns-in-Negative c =
    let r = c.args.rule in
    let long : length r.entries ≡ document.entries = c.well_formed.0.1.1.1.1.1.1.0.1.0.1 in
    place-negative r long _ _ _ (c.in-Some.is ∙ ap Some c.in-Negative.is) _ c.positive_end-p.ensures
