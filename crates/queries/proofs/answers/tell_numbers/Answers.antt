-- `queries::answers::tell_numbers` meets its contract. Assumes nothing.
use mathlib.Core.Path.{◌≡◌, refl}
use lib.ListN.{length}
use Rattle.theory.specs.Limits.{document}
use Rattle.queries.proofs.answers.tell_numbers.Goals as goal

pub returns : goal.returns
returns c =
    let long : length c.args.rule.entries ≡ document.entries =
    c.well_formed.0.1.1.1.1.1.1.0.1.0.1 in
    (refl, long)
