-- `checklist_frame::holds_fact` tells whether the slot holds the fact. Assumes nothing.
use native.Mathlib.Omega.{arith}
use mathlib.Core.Path.{◌≡◌}
use lib.ListN.{length}
use Rattle.theory.specs.Limits.{document}
use Rattle.theory.proofs.Lists.{is_not}
use Rattle.checklist_frame.specs.Frame.{fact}
use Rattle.checklist_frame.proofs.Slots.{head-held, positives-held, negatives-held, fact-held}
use Rattle.checklist_frame.proofs.holds_fact.Goals as goal
use Rattle.checklist_frame.proofs.holds_fact.Goals.{Start}

-- what owning the rule tells of its entries
long : (s : Start) → length s.args.rule.entries ≡ document.entries
long s = s.well_formed.0.1.1.1.1.1.1.0.1.0.1

pub returns-then-rule-atom : goal.returns-then-rule-atom
returns-then-rule-atom c =
    is_not (λ h. c.if-rule-atom.true (head-held c.args.rule (fact c.args.atom.0) (long c.before.before.before) h))

pub returns-then-rule-ne0 : goal.returns-then-rule-ne0
returns-then-rule-ne0 c =
    is_not (λ h. c.if-rule-ne0.true (positives-held c.args.rule (fact c.args.atom.0) (long c.before.before.before.before.before) h (omega arith)))

pub returns-then-rule-ne0-2 : goal.returns-then-rule-ne0-2
returns-then-rule-ne0-2 c =
    is_not (λ h. c.if-rule-ne0-2.true
    (negatives-held c.args.rule (fact c.args.atom.0) (long c.before.before.before.before.before.before.before) h (omega arith) (omega arith)))

pub returns : goal.returns
returns c =
    let a = c.args in
    fact-held a.rule a.atom.0 c.if-rule-atom.false c.if-rule-ne0.false c.if-rule-ne0-2.false
