-- `questions::clean::clean_rule` meets its contract. Each return has what the tests before it told. Assumes nothing.
use mathlib.Core.Path.{ap}
use mathlib.Core.Bool.{not}
use mathlib.Core.Path.{◌≡◌}
use lib.ListN.{length}
use Rattle.theory.specs.Limits.{document}
use Rattle.questions.proofs.Cleanness.{free-head}
use Rattle.questions.proofs.clean.clean_rule.Goals as goal
use Rattle.questions.proofs.clean.clean_rule.Goals.{Start}

-- what owning the rule tells of its entries
long : (s : Start) → length s.args.rule.entries ≡ document.entries
long s = s.well_formed.0.1.1.1.1.1.1.0.1.0.1

pub returns : goal.returns
returns c =
    free-head c.args.rule (long c.before.before.before.before.before.before.before.before.before) c.if-n-gt-ENTRIES.false _ c.empty_from.ensures (ap not c.if-not-empty_from.false)
    c.if-rule-ne0.false c.if-n-ne0.false
