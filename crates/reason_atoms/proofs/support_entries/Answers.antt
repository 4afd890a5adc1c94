-- `reason_atoms::support_entries` meets its contract. The loop's invariant: the entries of the atoms below i are kept.
-- Assumes nothing.
use native.Mathlib.Omega.{arith}
use mathlib.Core.Path.{refl}
use Rattle.table.specs.Sets.{member, number}
use Rattle.table.specs.Words.{rules_of}
use Rattle.reason_atoms.proofs.SupportEntries.{entries-start, entries-room, entries_next}
use Rattle.reason_atoms.proofs.SupportEntries.{entries-end, past-positives, count-read, entry_read}
use Rattle.reason_atoms.proofs.support_entries.Goals as goal

pub loop-i-init : goal.loop-i-init
loop-i-init c = entries-start _ _

pub copy_entries-requires : goal.copy_entries-requires
copy_entries-requires c =
    let at = c.loop-i in
    entries-room _ _ at.i (omega arith) _ _ at.invariant refl _ c.entry_count-n.ensures.1

pub overflow_cast-counts : goal.overflow_cast-counts
overflow_cast-counts c = omega (arith, c.entry_count-n.ensures.1)

pub loop-i-preserved : goal.loop-i-preserved
loop-i-preserved c =
    let at = c.loop-i in
    let rows = rules_of c.args.table.now in
    let flags = member c.args.flags.now in
    let slots = number c.args.slots.now in
    let rule = c.rule_in-rule.result in
    entries_next _ _ at.i (omega arith) _ _ at.invariant rule.entries _ _
    (count-read rows flags slots at.i _ _ rule c.has-is_in.ensures c.slot_of-s.ensures c.rule_in-rule.ensures _
    c.entry_count-n.ensures.0)
    c.entry_count-n.ensures.1
    (entry_read rows flags slots at.i _ _ rule c.has-is_in.ensures c.slot_of-s.ensures c.rule_in-rule.ensures)
    c.copy_entries.ensures

pub returns : goal.returns
returns c =
    let at = c.loop-i in
    entries-end _ _ at.i _ _ (omega arith)
    (past-positives (rules_of c.args.table.now) c.args.flags.now (number c.args.slots.now) _ c.requires)
    at.invariant
