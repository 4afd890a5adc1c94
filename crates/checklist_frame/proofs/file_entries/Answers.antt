-- `checklist_frame::file_entries` tells whether the first three entries are those of the frame's rule. Assumes
-- nothing.
use Rattle.theory.proofs.Lists.{is_not}
use Rattle.checklist_frame.proofs.Slots.{told-yes, three-are, are-three}
use borrow.Author.Rules.{rules}
use Rattle.checklist_frame.proofs.file_entries.Goals as goal

pub returns-then-atoms-i : goal.returns-then-atoms-i
returns-then-atoms-i c =
    is_not (λ e. c.if-atoms-i.true (three-are c.args.atoms c.args.i (search rules) c.requires.0 e).first)

pub returns-then-atoms-i-2 : goal.returns-then-atoms-i-2
returns-then-atoms-i-2 c =
    is_not (λ e. c.if-atoms-i-2.true (three-are c.args.atoms c.args.i (search rules) c.requires.0 e).second)

pub returns-then-atoms-i-3 : goal.returns-then-atoms-i-3
returns-then-atoms-i-3 c =
    is_not (λ e. c.if-atoms-i-3.true (three-are c.args.atoms c.args.i (search rules) c.requires.0 e).third)

pub returns : goal.returns
returns c =
    told-yes (are-three c.args.atoms c.args.i (search rules) c.requires.0
    (record { first = c.if-atoms-i.false; second = c.if-atoms-i-2.false; third = c.if-atoms-i-3.false }))
