-- `model::fill_stratum` makes the rounds of the layer. Assumes nothing.
-- Inside a round: what is left of it gives the whole round. Between rounds: what is left of them gives all. Each round
-- that adds brings in the head of one more rule, so that the rounds end.
use Rattle.std.proofs.Common.{◌≡◌, length, sym, refl, ◌∙◌, arith, rules}
use Rattle.theory.specs.Limits.{document}
use Rattle.theory.proofs.Found.{found-filled}
use Rattle.table.specs.Words.{rules_of}
use Rattle.table.specs.Sets.{member, number}
use Rattle.table.proofs.Words.{rules-length}
use Rattle.model.proofs.Visits.{left-start, left-idle, left-stop, left-add, left-rest, waits-sought}
use Rattle.model.proofs.Visits.{seen_start, seen-over, seen_here, seen-mark, seen_end}
use Rattle.model.proofs.Rounds.{going_start, going-few, room_of, head-below}
use Rattle.model.proofs.Rounds.{strata-given, stratum-next, stratum-end}
use Rattle.model.proofs.fill_stratum.Goals as goal

pub loop-end-init : goal.loop-end-init
loop-end-init c =
    let len = rules-length c.args.table.now in
    let L = strata-given (rules_of c.args.table.now) _ c.requires.stratified in
    (going_start _ _ _ _ (found-filled _ _ L c.requires.below), refl, λ z l r. absurd (omega (arith, len)), omega arith)

pub loop-slot-init : goal.loop-slot-init
loop-slot-init c =
    let t = c.loop-end.invariant in
    (left-start _ _ _ _, seen_start _ _ (rules_of c.args.table.now) _ _ t.2, t.3)

pub rule_at-rule-requires : goal.rule_at-rule-requires
rule_at-rule-requires c = (let l = c.loop-slot.invariant.2 in search rules)

pub loop-slot-preserved-then-not-waits : goal.loop-slot-preserved-then-not-waits
loop-slot-preserved-then-not-waits c =
    let read = c.rule_at-rule.ensures in
    let len = rules-length c.args.table.now in
    let no = sym c.waits.ensures ∙ c.if-not-waits.true in (
      left-idle _ _ (rules_of c.args.table.now) _ c.loop-slot.slot _ _ (omega (arith, c.loop-slot.invariant.2))
          c.loop-slot.invariant.0 _ read no,
      seen-over _ _ (rules_of c.args.table.now) _ _ _ c.loop-slot.slot c.loop-slot.invariant.1 _ read no,
      c.loop-slot.invariant.2,
    )

pub loop-slot-preserved-then-not-holds_valid : goal.loop-slot-preserved-then-not-holds_valid
loop-slot-preserved-then-not-holds_valid c =
    let len = rules-length c.args.table.now in (
      left-stop _ _ (rules_of c.args.table.now) _ c.loop-slot.slot _ _ (omega (arith, c.loop-slot.invariant.2))
          c.loop-slot.invariant.0 _ c.rule_at-rule.ensures
          (sym c.holds_valid.ensures ∙ c.if-not-holds_valid.true),
      seen_here _ _ (rules_of c.args.table.now) _ _ _ c.loop-slot.slot c.loop-slot.invariant.1,
      c.loop-slot.invariant.2,
    )

pub loop-slot-preserved : goal.loop-slot-preserved
loop-slot-preserved c =
    let here = c.rule_at-rule in
    let test = c.loop-slot-test.true in
    let rules = rules_of c.args.table.now in
    let len = rules-length c.args.table.now in
    let size : length c.loop-slot.found ≡ document.atoms =
    c.loop-slot.invariant.0.size ∙ (c.loop-end.invariant.1 ∙ c.requires.size) in (
      left-add _ _ rules _ c.loop-slot.slot _ _ (omega (arith, c.loop-slot.invariant.2, test)) c.loop-slot.invariant.0 _
          here.ensures
          (rw size (head-below rules document.atoms _ _ here.ensures c.requires.stratified.bounded))
          (waits-sought (number c.args.strata.now) c.args.k (member c.loop-slot.found) here.result.state
          here.result.head.0 (sym c.waits.ensures ∙ c.if-not-waits.false))
          (sym c.holds_valid.ensures ∙ c.if-not-holds_valid.false) _ c.mark.ensures,
      seen-mark _ _ rules _ _ _ _ _ _ c.mark.ensures
          (seen_here _ _ rules _ _ _ c.loop-slot.slot c.loop-slot.invariant.1),
      c.loop-slot.invariant.2,
    )

pub overflow_add-rounds : goal.overflow_add-rounds
overflow_add-rounds c =
    let few = going-few _ _ _ _ _ _ c.loop-end.invariant.0 in
    let len = rules-length c.args.table.now in
    let room = room_of (rules_of c.args.table.now) document.slots len in
    search rules

pub returns-then-not-adds : goal.returns-then-not-adds
returns-then-not-adds c =
    let len = rules-length c.args.table.now in
    let G = c.loop-end.invariant in
    let t = c.loop-slot in
    let past = c.loop-slot-test.false in
    let R = left-rest _ _ (rules_of c.args.table.now) _ t.slot _ _ (λ z l r. t.invariant.1.outer z (omega arith) r)
    t.invariant.0 in
    let over = c.if-not-adds.true in
    record {
      rounds = stratum-end (rules_of c.args.table.now) _ _ _ _ _ _ _ G.0 R over;
      size = R.size ∙ G.1;
    }

pub loop-end-smaller : goal.loop-end-smaller
loop-end-smaller c =
    let few = going-few _ _ _ _ _ _ c.loop-end.invariant.0 in
    let len = rules-length c.args.table.now in
    let room = room_of (rules_of c.args.table.now) document.slots len in
    omega arith

pub loop-end-preserved : goal.loop-end-preserved
loop-end-preserved c =
    let len = rules-length c.args.table.now in
    let G = c.loop-end.invariant in
    let t = c.loop-slot in
    let past = c.loop-slot-test.false in
    let R = left-rest _ _ (rules_of c.args.table.now) _ t.slot _ _ (λ z l r. t.invariant.1.outer z (omega arith) r)
    t.invariant.0 in
    let more = c.if-not-adds.false in (
      stratum-next (rules_of c.args.table.now) _ _ _ _ _ _ _ G.0 R
          (strata-given (rules_of c.args.table.now) _ c.requires.stratified) more,
      R.size ∙ G.1,
      seen_end _ _ (rules_of c.args.table.now) _ _ _ t.slot t.invariant.1 past,
      omega (arith, t.invariant.1.low, t.invariant.0.place),
    )
