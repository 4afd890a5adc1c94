-- `questions::clean::well_formed` meets its contract. Assumes nothing.
-- The lists that are asked about are parts of the entries.
use mathlib.Core.Path.{ap}
use mathlib.Core.Bool.{not}
use mathlib.Core.Path.{◌≡◌}
use lib.ListN.{length}
use Rattle.theory.specs.Limits.{document}
use Rattle.table.specs.Clean.{CleanRule}
use Rattle.questions.proofs.WellFormed.{head-past, positives-unfit, negatives-decide}
use Rattle.questions.proofs.clean.well_formed.Goals as goal
use Rattle.questions.proofs.clean.well_formed.Goals.{After-head_fits, Start}

-- what owning the rule tells of its entries
long : (s : Start) → length s.args.rule.entries ≡ document.entries
long s = s.well_formed.0.1.1.1.1.1.1.0.1.0.1

-- where the head is asked about, the slot is clean and holds a rule
clean :
    (h : After-head_fits)
    → CleanRule h.args.rule
clean h =
    h.clean_rule.ensures.0 h.if-not-clean_rule.false

pub returns-then-not-head_fits : goal.returns-then-not-head_fits
returns-then-not-head_fits c =
    head-past c.args.rule (long c.before.before.before.before.before.before.before.before.before) (clean c.before) c.if-rule-eq0.false _ c.head_fits.ensures (ap not c.if-not-head_fits.true)

pub returns-then-not-ascends : goal.returns-then-not-ascends
returns-then-not-ascends c =
    positives-unfit c.args.rule (long c.before.before.before.before.before.before.before.before.before.before.before) (clean c.before.before.before) c.if-rule-eq0.false _ c.head_fits.ensures (ap not c.if-not-head_fits.false)
    _ c.ascends.ensures (ap not c.if-not-ascends.true)

pub returns : goal.returns
returns c =
    negatives-decide c.args.rule (long c.before.before.before.before.before.before.before.before.before.before.before.before) (clean c.before.before.before.before) c.if-rule-eq0.false _ c.head_fits.ensures (ap not c.if-not-head_fits.false)
    _ c.ascends.ensures (ap not c.if-not-ascends.false) _ c.ascends-2.ensures
