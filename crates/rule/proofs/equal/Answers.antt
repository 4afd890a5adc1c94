-- `rule::equal` meets its contract. Assumes nothing.
-- The loop keeps: the rules are equal exactly if the entries that are left are equal in number.
use native.Mathlib.Omega.{arith}
use mathlib.Core.Path.{◌≡◌}
use lib.ListN.{length}
use Rattle.theory.specs.Limits.{document}
use Rattle.rule.proofs.Equality.{other-head, other-positives, other-negatives}
use Rattle.rule.proofs.Equality.{equal-from, equal_over, equal_next, equal-stop}
use Rattle.rule.proofs.equal.Goals as goal

pub returns-then-a-b : goal.returns-then-a-b
returns-then-a-b c = other-head c.args.a c.args.b c.if-a-b.true

pub returns-then-p-q : goal.returns-then-p-q
returns-then-p-q c =
    other-positives c.args.a c.args.b document.entries c.well_formed.0.1.1.1.1.1.1.0.1.0.1 c.well_formed.1.0.1.1.1.1.1.1.0.1.0.1 _ _
    c.positive_end-p.ensures c.positive_end-q.ensures c.if-p-q.true

pub returns-then-n-m : goal.returns-then-n-m
returns-then-n-m c =
    other-negatives c.args.a c.args.b document.entries c.well_formed.0.1.1.1.1.1.1.0.1.0.1 c.well_formed.1.0.1.1.1.1.1.1.0.1.0.1 _ _
    c.positive_end-p.ensures c.positive_end-q.ensures
    _ _ c.negative_end-n.ensures c.negative_end-m.ensures c.if-p-q.false c.if-n-m.true

pub loop-j-init : goal.loop-j-init
loop-j-init c =
    let e = equal-from c.args.a c.args.b document.entries c.well_formed.0.1.1.1.1.1.1.0.1.0.1 c.well_formed.1.0.1.1.1.1.1.1.0.1.0.1 _ _
    c.positive_end-p.ensures c.positive_end-q.ensures
    _ _ c.negative_end-n.ensures c.negative_end-m.ensures
    c.if-p-q.false c.if-n-m.false c.if-a-b.false in
    (omega (arith, c.negative_end-n.ensures), e)

pub returns-then-x-y : goal.returns-then-x-y
returns-then-x-y c =
    let la : length c.args.a.entries ≡ document.entries = c.well_formed.0.1.1.1.1.1.1.0.1.0.1 in
    let lb : length c.args.b.entries ≡ document.entries = c.well_formed.1.0.1.1.1.1.1.1.0.1.0.1 in
    equal-stop c.args.a.entries c.args.b.entries _ _ _ _ c.loop-j.invariant.1
    c.loop-j-test.true (omega arith) (omega arith) c.if-x-y.true

pub loop-j-preserved : goal.loop-j-preserved
loop-j-preserved c =
    let la : length c.args.a.entries ≡ document.entries = c.well_formed.0.1.1.1.1.1.1.0.1.0.1 in
    let lb : length c.args.b.entries ≡ document.entries = c.well_formed.1.0.1.1.1.1.1.1.0.1.0.1 in
    let e = equal_next c.args.a.entries c.args.b.entries _ _ _ _ c.loop-j.invariant.1
    c.loop-j-test.true (omega arith) (omega arith) c.if-x-y.false in
    (c.loop-j.invariant.0, e)

pub returns : goal.returns
returns c =
    equal_over c.args.a.entries c.args.b.entries _ _ _ _ c.loop-j.invariant.1 c.loop-j-test.false
