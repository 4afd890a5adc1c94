-- `add_remove::remove_from_sound` ends as its contract says. Assumes nothing.
use Rattle.std.proofs.lemmas.Result.{err_from_is_err_and}
use Rattle.calls.proofs.Asking.{slot-passed, change-refused}
use Rattle.add_remove.proofs.Removing.{bounded-rest, remove-ends}
use Rattle.add_remove.proofs.remove_from_sound.Goals as goal

pub relabel-requires : goal.relabel-requires
relabel-requires c =
    bounded-rest c.args.table.now c.args.slot _ (slot-passed _ _ _ c.slot_asked.ensures _ c.in_ok-s.was)
    _ c.free.ensures _ c.put_rule.ensures

pub returns-in_err-s : goal.returns-in_err-s
returns-in_err-s c =
    let p = err_from_is_err_and c.from_residual.result c.from_residual.ensures.1 in
    rw (p.1, p.2)
    (change-refused c.args.table.now c.args.slot _ c.slot_asked.ensures _ c.in_err-s.was _ _ (λ k no. no))

pub returns : goal.returns
returns c =
    remove-ends c.args.table.now c.args.slot _ (slot-passed _ _ _ c.slot_asked.ensures _ c.in_ok-s.was)
    _ c.free.ensures _ c.put_rule.ensures _ _ c.relabel.ensures
