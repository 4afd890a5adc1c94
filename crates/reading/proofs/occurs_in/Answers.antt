-- `reading::occurs_in` meets its contract. Assumes nothing.
use Rattle.table.specs.Rules.{slot_of}
use Rattle.reading.proofs.OneAtom.{by-head, by-entry}
use Rattle.reading.proofs.occurs_in.Goals as goal

pub returns-then-has_head : goal.returns-then-has_head
returns-then-has_head c =
    by-head c.args.a.0 (slot_of c.args.rule) _ c.has_head.ensures c.if-has_head.true

pub returns : goal.returns
returns c =
    by-entry c.args.a.0 (slot_of c.args.rule) _ _ c.has_head.ensures c.if-has_head.false
    c.has_entry.ensures
