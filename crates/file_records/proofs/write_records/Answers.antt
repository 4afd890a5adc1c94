-- `file_records::write_records` meets its contract. The loop keeps: the records passed are written. Assumes nothing.
use Prim.Native.Nat.{◌<◌}
use native.Mathlib.Omega.{arith}
use mathlib.Core.Path.{◌≡◌, sym, subst}
use lib.ListN.{length}
use Rattle.theory.specs.Limits.{document}
use Rattle.table.specs.Words.{rules_of}
use Rattle.table.specs.Clean.{CleanRule}
use Rattle.table.proofs.Words.{rules-length}
use Rattle.file_records.proofs.Held.{slots-long, slot-from, slot-from-below}
use Rattle.file_records.proofs.Records.{wrote-no-record, wrote-next-record}
use borrow.Author.Rules.{rules}
use Rattle.file_records.proofs.write_records.Goals as goal

pub loop-k-init : goal.loop-k-init
loop-k-init c = wrote-no-record _ _ _ (omega arith)

pub rule_at-rule-requires : goal.rule_at-rule-requires
rule_at-rule-requires c =
    let a = c.args in
    let long : length a.held.slots ≡ document.slots = search rules in
    let many = slots-long a.held a.from a.count (omega (arith, c.requires)) in
    let table = a.table.now in
    omega (
      arith,
      slot-from-below a.held a.from a.count c.loop-k.k (omega (arith, many, c.loop-k-test.true)) (rules_of table)
          c.requires.held_in c.requires.count_bound.0,
      rules-length table,
    )

pub write_record-requires-clause-clean_rule : goal.write_record-requires-clause-clean_rule
write_record-requires-clause-clean_rule c =
    subst CleanRule (sym c.rule_at-rule.ensures) (c.requires.clean_slots _ (rule_at-rule-requires c.before.before))

pub loop-k-preserved : goal.loop-k-preserved
loop-k-preserved c =
    let a = c.args in
    let long : length a.held.slots ≡ document.slots = search rules in
    let many = slots-long a.held a.from a.count (omega (arith, c.requires)) in
    let low : c.loop-k.k < a.count = omega (arith, many, c.loop-k-test.true) in
    wrote-next-record (rules_of a.table.now) a.from a.held c.requires.held_in c.loop-k.k
    (omega (arith, c.requires, low)) c.loop-k.invariant _ _ (slot-from a.held a.from a.count c.loop-k.k low)
    c.rule_at-rule.ensures c.write_record.ensures

pub returns : goal.returns
returns c =
    let a = c.args in
    let l = c.loop-k in
    let long : length a.held.slots ≡ document.slots = search rules in
    let many = slots-long a.held a.from a.count (omega (arith, c.requires)) in
    let all : l.k ≡ a.count = omega (arith, many, c.loop-k-test.false, l.auto.k-end) in
    rw all at l.invariant
