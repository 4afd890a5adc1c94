-- `add_remove::add_to_sound` puts the rule into the lowest free slot of a sound table, or refuses. Assumes nothing.
-- Each return has the answers of the questions before it.
use Rattle.std.specs.Prelude.{Some, None}
use Rattle.std.proofs.lemmas.Result.{err_from_is_err_and}
use native.Mathlib.Omega.{arith}
use mathlib.Core.Path.{◌≡◌, sym}
use mathlib.Core.Bool.{true, false}
use mathlib.Core.Option.{none}
use Rattle.theory.specs.Rules.{all, any_rule, same}
use Rattle.theory.specs.Questions.{first_no, rule_questions}
use Rattle.theory.specs.Limits.{document}
use Rattle.table.specs.Questions.{rule_from}
use Rattle.refusals.specs.declared.Refusal.TheVariants.{TableFull}
use Rattle.calls.specs.Ends.{held}
use Rattle.new_rule.proofs.Slots.{lowest-at, lowest-none}
use Rattle.add_remove.proofs.Putting.{same-told}
use Rattle.add_remove.proofs.Adding.{refused-early, refused-same, refused_full, refused-cycle, bounded-changed}
use Rattle.add_remove.proofs.Adding.{add-ends}
use Rattle.add_remove.proofs.add_to_sound.Goals as goal

-- Questions 1 to 4 come first: of a rule that they refuse
-- no later question is asked.
pub returns-in_err-ask_rule : goal.returns-in_err-ask_rule
returns-in_err-ask_rule c =
    let t = c.args.table.now in
    let named = rule_from c.args.head c.args.positives.now c.args.negatives.now in
    let p = err_from_is_err_and c.from_residual.result c.from_residual.ensures.1 in
    rw (p.1, p.2) (refused-early t c.requires named _ c.in_err-ask_rule.ensures)

pub make_rule-rule-requires : goal.make_rule-rule-requires
make_rule-rule-requires c = sym c.in_ok-ask_rule.ensures

pub returns-then-holds_rule : goal.returns-then-holds_rule
returns-then-holds_rule c =
    let t = c.args.table.now in
    let named = rule_from c.args.head c.args.positives.now c.args.negatives.now in
    let pass : first_no (rule_questions document named) ≡ none = sym c.in_ok-ask_rule.ensures in
    let told : any_rule (same named) (all (held t)) ≡ true =
    same-told (all (held t)) c.requires.rules.ascending named pass c.make_rule-rule.result c.make_rule-rule.ensures _ true
    c.holds_rule.ensures c.if-holds_rule.true in
    refused-same t c.requires named pass told

pub returns-in_err-slot : goal.returns-in_err-slot
returns-in_err-slot c =
    let t = c.args.table.now in
    let named = rule_from c.args.head c.args.positives.now c.args.negatives.now in
    let pass : first_no (rule_questions document named) ≡ none = sym c.in_ok-ask_rule.ensures in
    let other : any_rule (same named) (all (held t)) ≡ false =
    same-told (all (held t)) c.requires.rules.ascending named pass c.make_rule-rule.result c.make_rule-rule.ensures _ false
    c.holds_rule.ensures c.if-holds_rule.false in
    let full : c.lowest_free.result ≡ None = grind arith in
    let p = err_from_is_err_and c.from_residual-in_err-slot.result c.from_residual-in_err-slot.ensures.1 in
    let why : c.in_err-slot.field-0.0 ≡ TableFull = grind arith in
    rw (p.1, p.2, why) (refused_full t c.requires named pass other (lowest-none _ _ c.lowest_free.ensures full))

pub relabel-requires : goal.relabel-requires
relabel-requires c =
    let t = c.args.table.now in
    let named = rule_from c.args.head c.args.positives.now c.args.negatives.now in
    let pass : first_no (rule_questions document named) ≡ none = sym c.in_ok-ask_rule.ensures in
    let other : any_rule (same named) (all (held t)) ≡ false =
    same-told (all (held t)) c.requires.rules.ascending named pass c.make_rule-rule.result c.make_rule-rule.ensures _ false
    c.holds_rule.ensures c.if-holds_rule.false in
    let found : c.lowest_free.result ≡ Some c.in_ok-slot.slot = grind arith in
    let free = lowest-at _ _ c.lowest_free.ensures _ found in
    bounded-changed t c.requires named pass other _ free.0 free.1
    c.make_rule-rule.result c.make_rule-rule.ensures _ c.put_rule.ensures

pub returns-then-not-relabel : goal.returns-then-not-relabel
returns-then-not-relabel c =
    let t = c.args.table.now in
    let named = rule_from c.args.head c.args.positives.now c.args.negatives.now in
    let pass : first_no (rule_questions document named) ≡ none = sym c.in_ok-ask_rule.ensures in
    let other : any_rule (same named) (all (held t)) ≡ false =
    same-told (all (held t)) c.requires.rules.ascending named pass c.make_rule-rule.result c.make_rule-rule.ensures _ false
    c.holds_rule.ensures c.if-holds_rule.false in
    let found : c.lowest_free.result ≡ Some c.in_ok-slot.slot = grind arith in
    let free = lowest-at _ _ c.lowest_free.ensures _ found in
    refused-cycle t c.requires named pass other _ free.0 free.1
    c.make_rule-rule.result c.make_rule-rule.ensures _ c.put_rule.ensures _ _ c.relabel.ensures
    c.if-not-relabel.true

pub returns : goal.returns
returns c =
    let t = c.args.table.now in
    let named = rule_from c.args.head c.args.positives.now c.args.negatives.now in
    let pass : first_no (rule_questions document named) ≡ none = sym c.in_ok-ask_rule.ensures in
    let other : any_rule (same named) (all (held t)) ≡ false =
    same-told (all (held t)) c.requires.rules.ascending named pass c.make_rule-rule.result c.make_rule-rule.ensures _ false
    c.holds_rule.ensures c.if-holds_rule.false in
    let found : c.lowest_free.result ≡ Some c.in_ok-slot.slot = grind arith in
    let free = lowest-at _ _ c.lowest_free.ensures _ found in
    add-ends t c.requires named pass other _ free.0 free.1
    c.make_rule-rule.result c.make_rule-rule.ensures _ c.put_rule.ensures _ _ c.relabel.ensures
    c.if-not-relabel.false
