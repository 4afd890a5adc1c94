-- `checklist_frame::file_count` finds the number of files of the checklist that the rules are. Assumes nothing.
use Rattle.table.specs.Rules.{book_of}
use Rattle.table.specs.Words.{rules_of}
use Rattle.checklist_frame.proofs.Slots.{count_none, count-broken, count-whole}
use Rattle.checklist_frame.proofs.file_count.Goals as goal

pub returns-then-n-eq0 : goal.returns-then-n-eq0
returns-then-n-eq0 c =
    count_none (book_of (rules_of c.args.table.now)) _ c.frame_run-n.ensures c.if-n-eq0.true

pub returns-then-not-marks_behind : goal.returns-then-not-marks_behind
returns-then-not-marks_behind c =
    count-broken (book_of (rules_of c.args.table.now)) _ c.frame_run-n.ensures _ c.marks_behind.ensures
    c.if-not-marks_behind.true

pub returns : goal.returns
returns c =
    count-whole (book_of (rules_of c.args.table.now)) _ c.frame_run-n.ensures _ c.marks_behind.ensures
    c.if-n-eq0.false c.if-not-marks_behind.false
