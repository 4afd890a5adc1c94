-- `muting::mute_in_sound` ends as its contract says. Assumes nothing.
use Rattle.std.proofs.lemmas.Result.{err_from_is_err_and}
use Rattle.calls.proofs.Asking.{slot-passed, change-refused}
use Rattle.muting.proofs.Ends.{bounded-after-mark, muted-ends}
use Rattle.muting.proofs.mute_in_sound.Goals as goal

pub relabel-requires : goal.relabel-requires
relabel-requires c =
    bounded-after-mark c.args.table.now c.args.slot _ (slot-passed _ _ _ c.slot_asked.ensures _ c.in_ok-s.was)
    c.args.muted _ _ c.rule_in-held.ensures c.with_mark.ensures _ c.put_rule.ensures

pub returns-in_err-s : goal.returns-in_err-s
returns-in_err-s c =
    let p = err_from_is_err_and c.from_residual.result c.from_residual.ensures.1 in
    rw (p.1, p.2)
    (change-refused c.args.table.now c.args.slot _ c.slot_asked.ensures _ c.in_err-s.was _ _ (λ k no. no))

pub returns : goal.returns
returns c =
    muted-ends c.args.table.now c.args.slot _ (slot-passed _ _ _ c.slot_asked.ensures _ c.in_ok-s.was)
    c.args.muted _ _ c.rule_in-held.ensures c.with_mark.ensures _ c.put_rule.ensures _ _ c.relabel.ensures
