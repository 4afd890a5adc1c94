-- `well_formed::no_two_equal` meets its contract. Assumes nothing.
use Prim.Native.Nat.{◌≤◌}
use native.Mathlib.Omega.{arith}
use mathlib.Core.Path.{refl, sym, ◌∙◌}
use lib.ListN.{length}
use Rattle.theory.specs.Limits.{document}
use Rattle.theory.proofs.Lists.{clash}
use Rattle.table.specs.Rules.{program_of}
use Rattle.table.specs.Words.{rules_of}
use Rattle.theory.proofs.Lists.{is_not}
use Rattle.table.proofs.Members.{all_alike}
use Rattle.table.proofs.Programs.{program-length, slot_rule}
use Rattle.table.proofs.Words.{rules-length}
use Rattle.well_formed.specs.Keys.{keys}
use Rattle.well_formed.proofs.Links.{links-start, links-step, links-all}
use Rattle.well_formed.proofs.Links.{read_at}
use Rattle.well_formed.proofs.Links.{follow-start, follow-falls, follow-next, follow-equal}
use Rattle.well_formed.proofs.no_two_equal.Goals as goal

pub loop-i-init : goal.loop-i-init
loop-i-init c = links-start _ _ _ _ refl refl (λ h. all_alike keys h 0)

pub loop-link-init : goal.loop-link-init
loop-link-init c =
    let l = c.loop-i in
    follow-start _ document.slots _ _ l.i l.invariant _ _ _ c.slot_key-k.ensures c.last_of-start.ensures

pub rule_at-other-requires : goal.rule_at-other-requires
rule_at-other-requires c = (let l = c.loop-link.invariant.under in omega arith)

pub returns-then-equal : goal.returns-then-equal
returns-then-equal c =
    let l = c.loop-link in
    is_not (follow-equal _ document.slots _ _ c.loop-i.i c.loop-i.invariant _ (read_at (rules_of c.args.table.now) _ c.rule_at-rule.result c.rule_at-rule.ensures) l.link
    c.loop-link-test.true l.invariant _ _ (slot_rule c.rule_at-rule.result)
    (λ r g. slot_rule c.rule_at-other.result r (sym (read_at (rules_of c.args.table.now) _ c.rule_at-other.result c.rule_at-other.ensures) ∙ g))
    (c.equal.ensures.0 c.if-equal.true))

pub bounds-before-link : goal.bounds-before-link
bounds-before-link c = (let l = c.loop-link.invariant.under in omega arith)

-- the next link is before the one that was followed
pub loop-link-smaller : goal.loop-link-smaller
loop-link-smaller c =
    follow-falls _ document.slots _ _ c.loop-i.i c.loop-i.invariant _ (read_at (rules_of c.args.table.now) _ c.rule_at-rule.result c.rule_at-rule.ensures)
    c.loop-link.link c.loop-link-test.true c.loop-link.invariant

pub loop-link-preserved : goal.loop-link-preserved
loop-link-preserved c =
    let l = c.loop-link in
    follow-next _ document.slots _ _ c.loop-i.i c.loop-i.invariant _ (read_at (rules_of c.args.table.now) _ c.rule_at-rule.result c.rule_at-rule.ensures) l.link
    c.loop-link-test.true l.invariant _ _ (slot_rule c.rule_at-rule.result)
    (λ r g. slot_rule c.rule_at-other.result r (sym (read_at (rules_of c.args.table.now) _ c.rule_at-other.result c.rule_at-other.ensures) ∙ g))
    (λ q. clash (c.equal.ensures.1 q) c.if-equal.false)

pub loop-i-preserved : goal.loop-i-preserved
loop-i-preserved c =
    let l = c.loop-link in
    links-step _ document.slots _ _ c.loop-i.i c.loop-i.invariant c.loop-i-test.true _ (read_at (rules_of c.args.table.now) _ c.rule_at-rule.result c.rule_at-rule.ensures)
    l.link (omega (arith, c.loop-link-test.false)) l.invariant
    _ _ c.slot_key-k.ensures c.last_of-start.ensures _ c.note.ensures

pub returns : goal.returns
returns c =
    let long = rules-length c.args.table.now in
    let over : length (program_of (rules_of c.args.table.now)) ≤ c.loop-i.i =
    omega (arith, program-length (rules_of c.args.table.now), long) in
    (λ t. links-all _ document.slots _ _ _ c.loop-i.invariant over, λ h. refl)
