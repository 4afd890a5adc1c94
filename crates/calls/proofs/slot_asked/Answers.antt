-- `calls::slot_asked` meets its contract: the refusal is that of the first question answered no. Assumes nothing.
use Rattle.table.specs.Words.{table_of}
use Rattle.refusals.specs.declared.Refusal.TheVariants.{SlotTooLarge, SlotFree}
use Rattle.calls.specs.Asking.{refused, passed}
use Rattle.calls.proofs.Asking.{slot-past, slot-empty, slot-yes}
use Rattle.calls.proofs.slot_asked.Goals as goal

pub returns-then-slot-ge-SLOTS : goal.returns-then-slot-ge-SLOTS
returns-then-slot-ge-SLOTS c =
    refused SlotTooLarge c.requires (slot-past (table_of c.args.table.now) c.args.slot c.if-slot-ge-SLOTS.true)

pub returns-then-held-eq0 : goal.returns-then-held-eq0
returns-then-held-eq0 c =
    refused SlotFree c.requires
    (slot-empty (table_of c.args.table.now) c.args.slot _ c.rule_in-held.ensures c.if-slot-ge-SLOTS.false
    c.if-held-eq0.true)

pub returns : goal.returns
returns c =
    passed c.requires
    (slot-yes (table_of c.args.table.now) c.args.slot _ c.rule_in-held.ensures c.if-slot-ge-SLOTS.false
    c.if-held-eq0.false)
