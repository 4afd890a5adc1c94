-- `strata::strata` meets its contract: by what the rounds keep. Assumes nothing.
use Prim.Native.Nat.{◌<◌}
use native.Mathlib.Omega.{arith}
use mathlib.Core.Path.{refl, ◌∙◌}
use Rattle.theory.specs.Limits.{document}
use Rattle.table.specs.Words.{rules_of}
use Rattle.table.proofs.Words.{rules-length}
use Rattle.table.proofs.SlotsInTurn.{slot-at-below}
use Rattle.strata.proofs.Numbers.{raised-length}
use Rattle.strata.proofs.Arrays.{entries_below, head-below, read_at}
use Rattle.strata.proofs.Arrays.{start, begin, passed, next, rest, more, over}
use Rattle.strata.proofs.strata.Goals as goal
use Rattle.strata.proofs.strata.Goals.{After-slot_at-s}

pub loop-round-init : goal.loop-round-init
loop-round-init c =
    (omega arith, refl, start (rules_of c.args.table.now) document.slots (rules-length _) document.atoms)

pub guide-requires : goal.guide-requires
guide-requires c =
    (c.requires, c.loop-round.invariant.2.attained, c.loop-round.invariant.1)

pub loop-i-init : goal.loop-i-init
loop-i-init c =
    let rows = rules_of c.args.table.now in (
      omega arith,
      c.guide.ensures.long ∙ c.loop-round.invariant.1,
      begin rows document.slots (rules-length _) _ _ _ _ c.loop-round.invariant.2 c.guide.ensures,
    )

-- the slot come to is one of the table's
below : (c : After-slot_at-s) → c.slot_at-s.result < document.slots
below c = slot-at-below _ _ _ _ c.slot_at-s.ensures (omega (arith, c.loop-i-test.true))

pub rule_at-rule-requires : goal.rule_at-rule-requires
rule_at-rule-requires c = below c

pub needed-n-requires : goal.needed-n-requires
needed-n-requires c =
    let rows = rules_of c.args.table.now in
    entries_below rows _ c.rule_at-rule.result (read_at rows _ _ c.rule_at-rule.ensures) _ c.requires

pub returns-then-n-gt-SLOTS : goal.returns-then-n-gt-SLOTS
returns-then-n-gt-SLOTS c =
    let t = c.loop-i in
    let a = c.args in
    passed (rules_of a.table.now) document.slots (rules-length _) _ _ t.i t.of t.raised t.invariant.2 _ _ _
    c.slot_at-s.ensures c.rule_at-rule.ensures c.needed-n.ensures c.if-n-gt-SLOTS.true

pub raise-higher-requires : goal.raise-higher-requires
raise-higher-requires c =
    let rows = rules_of c.args.table.now in
    head-below rows _ c.rule_at-rule.result
    (read_at rows _ _ c.rule_at-rule.ensures) _ _ _ c.requires
    c.needed-n.ensures

pub loop-i-preserved : goal.loop-i-preserved
loop-i-preserved c =
    let t = c.loop-i in (
      omega arith,
      raised-length _ _ _ _ _ c.raise-higher.ensures ∙ t.invariant.1,
      next (rules_of c.args.table.now) document.slots (rules-length _) _ _ t.i t.of t.raised t.invariant.2
          document.atoms t.invariant.1 c.requires _ _ _ _ _ c.slot_at-s.ensures c.rule_at-rule.ensures
          c.needed-n.ensures c.raise-higher.ensures,
    )

pub returns-then-not-raised : goal.returns-then-not-raised
returns-then-not-raised c =
    let t = c.loop-i in
    let a = c.args in
    rest (rules_of a.table.now) document.slots (rules-length _) _ _ t.i t.of t.raised
    t.invariant.2 c.if-not-raised.true c.loop-i-test.false

pub loop-round-preserved : goal.loop-round-preserved
loop-round-preserved c =
    let t = c.loop-i in
    let a = c.args in (
      omega arith,
      t.invariant.1,
      more (rules_of a.table.now) document.slots (rules-length _) _ _ t.i t.of t.raised
          t.invariant.2 c.if-not-raised.false c.loop-i-test.false,
    )

pub returns : goal.returns
returns c =
    over (rules_of c.args.table.now) document.slots (rules-length _) _ _
    c.loop-round.invariant.2
    c.loop-round-test.false
