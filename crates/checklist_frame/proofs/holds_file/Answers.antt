-- `checklist_frame::holds_file` tells whether the slot holds the frame's rule of the file. Assumes nothing.
use native.Mathlib.Omega.{arith}
use mathlib.Core.Path.{◌≡◌, ◌∙◌, ap}
use mathlib.Core.Option.{some}
use lib.ListN.{length}
use Rattle.theory.specs.Limits.{document}
use Rattle.theory.specs.Rules as theory
use Rattle.table.proofs.Programs.{active-state}
use Rattle.theory.proofs.Lists.{is_not}
use Rattle.checklist_frame.specs.Frame.{frame}
use Rattle.checklist_frame.proofs.Slots.{head-held, positives-held, negatives-held}
use Rattle.checklist_frame.proofs.Slots.{file_rule, frame-file, three-are, are-three, file-held, held-file}
use Rattle.checklist_frame.proofs.holds_file.Goals as goal
use Rattle.checklist_frame.proofs.holds_file.Goals.{Start}

-- what owning the rule tells of its entries
long : (s : Start) → length s.args.rule.entries ≡ document.entries
long s = s.well_formed.0.1.1.1.1.1.1.0.1.0.1

pub returns-then-rule-ne1 : goal.returns-then-rule-ne1
returns-then-rule-ne1 c = (let a = c.args in is_not (λ h. c.if-rule-ne1.true (active-state a.rule (frame a.i) h)))

pub returns-then-rule-i : goal.returns-then-rule-i
returns-then-rule-i c =
    is_not (λ h. c.if-rule-i.true (head-held c.args.rule (frame c.args.i) (long c.before.before.before.before) h
    ∙ ap (λ (q : theory.Rule). q.head) (frame-file c.args.i c.requires.0)))

pub returns-then-rule-ne2 : goal.returns-then-rule-ne2
returns-then-rule-ne2 c =
    is_not (λ h. c.if-rule-ne2.true (positives-held c.args.rule (file_rule c.args.i) (long c.before.before.before.before.before.before)
    (h ∙ ap some (frame-file c.args.i c.requires.0)) (omega arith)))

pub returns-then-rule-ne1-2 : goal.returns-then-rule-ne1-2
returns-then-rule-ne1-2 c =
    is_not (λ h. c.if-rule-ne1-2.true (negatives-held c.args.rule (file_rule c.args.i) (long c.before.before.before.before.before.before.before.before)
    (h ∙ ap some (frame-file c.args.i c.requires.0)) (omega arith) (omega arith)))

pub returns : goal.returns
returns c =
    let told = c.file_entries.ensures in (
      λ t. file-held c.args.rule c.args.i (long c.before.before.before.before.before.before.before.before.before.before) c.requires.0 c.if-rule-ne1.false c.if-rule-i.false c.if-rule-ne2.false
          c.if-rule-ne1-2.false (three-are c.args.rule.entries c.args.i (long c.before.before.before.before.before.before.before.before.before.before) c.requires.0 (told.0 t)),
      λ h. told.1 (are-three c.args.rule.entries c.args.i (long c.before.before.before.before.before.before.before.before.before.before) c.requires.0
          (held-file c.args.rule c.args.i (long c.before.before.before.before.before.before.before.before.before.before) c.requires.0 h c.if-rule-ne2.false c.if-rule-ne1-2.false)),
    )
