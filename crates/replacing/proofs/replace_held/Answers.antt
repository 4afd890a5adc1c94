-- `replacing::replace_held` puts the rule into the slot in place of the one there, or refuses. Assumes nothing.
-- Each return has the answers of the questions before it.
use Rattle.std.proofs.lemmas.Result.{err_from_is_err_and}
use mathlib.Core.Path.{◌≡◌, sym}
use mathlib.Core.Bool.{true, false}
use mathlib.Core.Option.{none}
use lib.ListN.{set}
use Rattle.theory.specs.Rules.{all, any_rule, same}
use Rattle.theory.specs.Questions.{first_no, rule_questions}
use Rattle.theory.specs.Limits.{document}
use Rattle.table.specs.Words.{rules_of}
use Rattle.table.specs.Questions.{rule_from}
use Rattle.calls.specs.Ends.{held}
use Rattle.replacing.proofs.Ends.{refused-early, rest-told, put-behind, refused-same}
use Rattle.replacing.proofs.Ends.{bounded-changed, refused-cycle, replace-ends}
use Rattle.replacing.proofs.replace_held.Goals as goal

-- Of the rule that the arguments name: that it passes questions 1 to 4; whether the slots without the old rule hold it.

pub returns-in_err-ask_rule : goal.returns-in_err-ask_rule
returns-in_err-ask_rule c =
    let t = c.args.table.now in
    let s = c.args.slot.0 in
    let there = c.requires.slot_value in
    let named = rule_from c.args.head c.args.positives.now c.args.negatives.now in
    let p = err_from_is_err_and c.from_residual.result c.from_residual.ensures.1 in
    rw (p.1, p.2) (refused-early t c.requires.sound s there named _ c.in_err-ask_rule.ensures)

pub make_rule-rule-requires : goal.make_rule-rule-requires
make_rule-rule-requires c = sym c.in_ok-ask_rule.ensures

pub returns-then-holds_rule : goal.returns-then-holds_rule
returns-then-holds_rule c =
    let t = c.args.table.now in
    let s = c.args.slot.0 in
    let there = c.requires.slot_value in
    let named = rule_from c.args.head c.args.positives.now c.args.negatives.now in
    let pass : first_no (rule_questions document named) ≡ none = sym c.in_ok-ask_rule.ensures in
    let elsewhere : any_rule (same named) (set (all (held t)) s none) ≡ true =
    rest-told t c.requires.sound s there named pass _ c.free.ensures _ c.put_rule.ensures c.make_rule-rule.result
    c.make_rule-rule.ensures _ true c.holds_rule.ensures c.if-holds_rule.true in
    refused-same t c.requires.sound s there named pass elsewhere

pub relabel-requires : goal.relabel-requires
relabel-requires c =
    let t = c.args.table.now in
    let s = c.args.slot.0 in
    let there = c.requires.slot_value in
    let named = rule_from c.args.head c.args.positives.now c.args.negatives.now in
    let pass : first_no (rule_questions document named) ≡ none = sym c.in_ok-ask_rule.ensures in
    let elsewhere : any_rule (same named) (set (all (held t)) s none) ≡ false =
    rest-told t c.requires.sound s there named pass _ c.free.ensures _ c.put_rule.ensures c.make_rule-rule.result
    c.make_rule-rule.ensures _ false c.holds_rule.ensures c.if-holds_rule.false in
    let put : rules_of c.put_rule-2.new.table ≡ set (rules_of t.words) s c.make_rule-rule.result =
    put-behind t c.requires.sound s there named pass _ c.free.ensures _ c.put_rule.ensures _ _ c.put_rule-2.ensures in
    bounded-changed t c.requires.sound s there named pass elsewhere c.make_rule-rule.result c.make_rule-rule.ensures _ put

pub returns-then-not-relabel : goal.returns-then-not-relabel
returns-then-not-relabel c =
    let t = c.args.table.now in
    let s = c.args.slot.0 in
    let there = c.requires.slot_value in
    let named = rule_from c.args.head c.args.positives.now c.args.negatives.now in
    let pass : first_no (rule_questions document named) ≡ none = sym c.in_ok-ask_rule.ensures in
    let elsewhere : any_rule (same named) (set (all (held t)) s none) ≡ false =
    rest-told t c.requires.sound s there named pass _ c.free.ensures _ c.put_rule.ensures c.make_rule-rule.result
    c.make_rule-rule.ensures _ false c.holds_rule.ensures c.if-holds_rule.false in
    let put : rules_of c.put_rule-2.new.table ≡ set (rules_of t.words) s c.make_rule-rule.result =
    put-behind t c.requires.sound s there named pass _ c.free.ensures _ c.put_rule.ensures _ _ c.put_rule-2.ensures in
    refused-cycle t c.requires.sound s there named pass elsewhere c.make_rule-rule.result
    c.make_rule-rule.ensures _ put _ _ c.relabel.ensures c.if-not-relabel.true

pub returns : goal.returns
returns c =
    let t = c.args.table.now in
    let s = c.args.slot.0 in
    let there = c.requires.slot_value in
    let named = rule_from c.args.head c.args.positives.now c.args.negatives.now in
    let pass : first_no (rule_questions document named) ≡ none = sym c.in_ok-ask_rule.ensures in
    let elsewhere : any_rule (same named) (set (all (held t)) s none) ≡ false =
    rest-told t c.requires.sound s there named pass _ c.free.ensures _ c.put_rule.ensures c.make_rule-rule.result
    c.make_rule-rule.ensures _ false c.holds_rule.ensures c.if-holds_rule.false in
    let put : rules_of c.put_rule-2.new.table ≡ set (rules_of t.words) s c.make_rule-rule.result =
    put-behind t c.requires.sound s there named pass _ c.free.ensures _ c.put_rule.ensures _ _ c.put_rule-2.ensures in
    replace-ends t c.requires.sound s there named pass elsewhere c.make_rule-rule.result
    c.make_rule-rule.ensures _ put _ _ c.relabel.ensures c.if-not-relabel.false
