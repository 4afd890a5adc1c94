-- `depths::below` meets its contract. Assumes nothing.
use native.Mathlib.Omega.{arith}
use mathlib.Core.Path.{◌≡◌, sym, ◌∙◌, ap}
use lib.ListN.{length, take}
use Rattle.std.proofs.Math.Seq.{take-length}
use Rattle.theory.specs.Lists.{every}
use Rattle.theory.specs.Limits.{document}
use Rattle.table.specs.Sets.{number}
use Rattle.table.specs.Rules.{numbers}
use Rattle.table.proofs.Entries.{every-over, every-next, every-stop, positives-are}
use Rattle.depths.proofs.Slots.{within_of, within_none, within-high}
use Rattle.depths.proofs.below.Goals as goal

pub loop-a-init : goal.loop-a-init
loop-a-init c =
    let r = c.args.rule in
    let long : length r.entries ≡ document.entries = c.well_formed.0.1.1.1.1.1.1.0.1.0.1 in
    ap (every _)
    (ap numbers (take-length (take c.positive_end-n.result r.entries))
    ∙ sym (positives-are r document.entries long _ c.positive_end-n.ensures))

pub returns-then-d-eq0 : goal.returns-then-d-eq0
returns-then-d-eq0 c =
    let xs = take c.positive_end-n.result c.args.rule.entries in
    let none = within_none (number c.args.depths.now) c.args.limit _ (sym c.number_of-d.ensures ∙ c.if-d-eq0.true) in
    sym (every-stop _ xs c.loop-a.a-index _ c.loop-a-test.true (omega arith) none) ∙ c.loop-a.invariant

pub returns-then-d-limit : goal.returns-then-d-limit
returns-then-d-limit c =
    let xs = take c.positive_end-n.result c.args.rule.entries in
    let told = c.number_of-d.ensures in
    sym (every-stop _ xs c.loop-a.a-index _ c.loop-a-test.true (omega arith)
    (within-high (number c.args.depths.now) c.args.limit _ (omega (arith, told, c.if-d-limit.true))))
    ∙ c.loop-a.invariant

pub loop-a-preserved : goal.loop-a-preserved
loop-a-preserved c =
    let xs = take c.positive_end-n.result c.args.rule.entries in
    let told = c.number_of-d.ensures in
    let good = within_of (number c.args.depths.now) c.args.limit _ (λ z. c.if-d-eq0.false (told ∙ z))
    (omega (arith, told, c.if-d-limit.false)) in
    sym (every-next _ xs c.loop-a.a-index _ c.loop-a-test.true (omega arith) good) ∙ c.loop-a.invariant

pub returns : goal.returns
returns c =
    let xs = take c.positive_end-n.result c.args.rule.entries in
    sym (every-over _ xs _ _ c.loop-a-test.false) ∙ c.loop-a.invariant
