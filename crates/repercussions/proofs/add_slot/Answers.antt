-- `repercussions::add_slot` meets its contract. Assumes nothing.
use Rattle.std.specs.Prelude.{Some}
use mathlib.Core.Path.{sym, ◌∙◌, ap}
use Rattle.theory.proofs.Lists.{clash, eqb-eq, eqb_of}
use Rattle.table.specs.Rules.{rule_of, spoiler_of}
use Rattle.table.proofs.Programs.{active-none, active-some}
use Rattle.repercussions.proofs.Edges.{grown-none, grown-same, gives-free, gives_other, gives-entries}
use Rattle.repercussions.proofs.Edges.{entries-give, gives_nothing, spoiler-edge}
use Rattle.repercussions.proofs.add_slot.Goals as goal

pub returns-then-rule-ne1 : goal.returns-then-rule-ne1
returns-then-rule-ne1 c = grown-none _ _ _ _ (gives-free _ _ _ _ (active-none c.args.rule c.if-rule-ne1.true))

pub returns-then-not-is_kept : goal.returns-then-not-is_kept
returns-then-not-is_kept c =
    let rule = c.args.rule in
    grown-none _ _ _ _
    (gives_other _ _ _ _ (rule_of rule) (active-some rule c.if-rule-ne1.false)
    (sym c.has.ensures ∙ c.if-has.true)
    (λ e. clash (eqb_of _ _ e) (sym c.is_kept.ensures ∙ c.if-not-is_kept.true)))

pub returns-then-has : goal.returns-then-has
returns-then-has c =
    let rule = c.args.rule in
    let is_held_lem = active-some rule c.if-rule-ne1.false in
    let is_in = sym c.has.ensures ∙ c.if-has.true in
    grown-same _ _ _ _ _
    (gives-entries _ _ _ _ (rule_of rule) is_held_lem is_in
    (eqb-eq _ _ (sym c.is_kept.ensures ∙ c.if-not-is_kept.false)))
    (entries-give _ _ _ _ (rule_of rule) is_held_lem is_in)
    c.add_entries.ensures

pub returns-in_default : goal.returns-in_default
returns-in_default c =
    let rule = c.args.rule in
    grown-none _ _ _ _
    (gives_nothing _ _ _ _ (rule_of rule) (active-some rule c.if-rule-ne1.false)
    (sym c.has.ensures ∙ c.if-has.false)
    (sym c.spoiler-found.ensures ∙ ap spoiler_of c.in_default.is))

pub returns-in-Positive : goal.returns-in-Positive
returns-in-Positive c =
    let rule = c.args.rule in
    spoiler-edge _ _ _ _ (rule_of rule) (active-some rule c.if-rule-ne1.false) _ _ _ _ _ _
    (sym c.has.ensures ∙ c.if-has.false) _
    (sym c.spoiler-found.ensures ∙ ap spoiler_of (c.in-Some.is ∙ ap Some c.in-Positive.is)) c.add_edge.ensures

pub returns-in-Negative : goal.returns-in-Negative
returns-in-Negative c =
    let rule = c.args.rule in
    spoiler-edge _ _ _ _ (rule_of rule) (active-some rule c.if-rule-ne1.false) _ _ _ _ _ _
    (sym c.has.ensures ∙ c.if-has.false) _
    (sym c.spoiler-found.ensures ∙ ap spoiler_of (c.in-Some.is ∙ ap Some c.in-Negative.is)) c.add_edge-in-Negative.ensures
