-- `reason_call::write_reason` meets its contract: an atom that is not in is refused; else what was gathered, counted
-- and written is the reason. Assumes nothing.
use mathlib.Core.Path.{sym, ◌∙◌}
use Rattle.table.specs.Words.{table_of}
use Rattle.reason_call.proofs.Reasons.{ends-12, ends-short, ends-written}
use Rattle.reason_call.proofs.write_reason.Goals as goal

pub returns-then-not-has : goal.returns-then-not-has
returns-then-not-has c =
    ends-12 (table_of c.args.table.now) c.requires.0 c.arrays_of-kept.result c.arrays_of-kept.ensures
    c.args.a.0 c.requires.1 (sym c.has.ensures ∙ c.if-not-has.true) _

pub support_entries-under-requires : goal.support_entries-under-requires
support_entries-under-requires c =
    c.arrays_of-kept.ensures.many

pub returns-then-buffer-n : goal.returns-then-buffer-n
returns-then-buffer-n c =
    ends-short (table_of c.args.table.now) c.requires.0 c.arrays_of-kept.result c.arrays_of-kept.ensures _ _
    c.support_entries-under.ensures c.args.a.0
    (sym c.has.ensures ∙ c.if-not-has.false) _ c.number_of-depth.ensures _
    c.gather.ensures c.args.buffer.now _ c.count_marked-n.ensures c.if-buffer-n.true

pub returns : goal.returns
returns c =
    ends-written (table_of c.args.table.now) c.requires.0 c.arrays_of-kept.result c.arrays_of-kept.ensures _ _
    c.support_entries-under.ensures c.args.a.0
    (sym c.has.ensures ∙ c.if-not-has.false) _ c.number_of-depth.ensures _
    c.gather.ensures c.args.buffer.now _ c.count_marked-n.ensures c.if-buffer-n.false _ _
    c.write_slots.ensures
