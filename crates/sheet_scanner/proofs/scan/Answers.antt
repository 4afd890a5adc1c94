-- `sheet_scanner::scan` meets its contract. The loop keeps: what was so of the first line's scan is so of all that was
-- scanned. The measure is what is left to read. Assumes nothing.
use Prim.Native.Nat.{◌-◌}
use native.Mathlib.Omega.{arith}
use mathlib.Core.Path.{sym, ◌∙◌}
use lib.ListN.{length}
use borrow.Author.Tests.{leb-false}
use Rattle.sheet_label_lines.specs.LabelLines.{LABELS_ROOM}
use Rattle.sheet_scanner.proofs.Scanning.{since-next, scans-over, scans-full}
use Rattle.sheet_scanner.proofs.scan.Goals as goal

pub loop-done-preserved : goal.loop-done-preserved
loop-done-preserved c =
    let l = c.loop-done in
    let s = c.scan_line-done-in-loop-done in
    since-next l.done c.loop-done-test.true l.invariant s.ensures.scans s.ensures.scans_one

pub returns-else-has_room : goal.returns-else-has_room
returns-else-has_room c =
    let l = c.loop-done in
    let first = c.scan_line-done in
    let all = l.invariant.since _ _ _ _ first.ensures.scans first.ensures.scans_one in
    let none =
    leb-false LABELS_ROOM (length l.out - l.done.printed) (sym c.has_room.ensures ∙ c.if-has_room.false) in
    record {
      scans = all.0;
      scans_all = scans-full _ l.done all.1 (omega (arith, none, l.invariant.printed, all.0.same_length));
    }

pub returns-after-loop-done : goal.returns-after-loop-done
returns-after-loop-done c =
    let first = c.scan_line-done in
    let all = c.loop-done.invariant.since _ _ _ _ first.ensures.scans first.ensures.scans_one in
    record { scans = all.0; scans_all = scans-over _ c.loop-done.done all.1 c.loop-done-test.false }
