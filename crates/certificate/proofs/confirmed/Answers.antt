-- `certificate::confirmed` meets its contract. Assumes nothing.
use Prim.Native.Nat.{◌-◌}
use native.Mathlib.Omega.{arith}
use mathlib.Core.Path.{refl}
use mathlib.Core.Bool.{false}
use Rattle.theory.specs.Limits.{document}
use Rattle.table.specs.Rules.{book_of}
use Rattle.table.specs.Words.{rules_of}
use Rattle.table.proofs.Members.{all_alike}
use Rattle.certificate.proofs.Walk.{walk-starts, walk-stops, walk-goes, walk_ends, compared_at, table-long}
use Rattle.certificate.proofs.confirmed.Goals as goal

pub loop-i-init : goal.loop-i-init
loop-i-init c = walk-starts _ _ _ _ _ _ c.requires _ refl (λ a. all_alike document.atoms a false)

pub returns-then-not-compare : goal.returns-then-not-compare
returns-then-not-compare c =
    walk-stops (book_of (rules_of c.args.table.now)) _ _ _ _ _ c.requires c.loop-i.i _ _ _ c.loop-i.invariant
    (compared_at (rules_of c.args.table.now) _ _ c.loop-i.i c.rule_at-rule.result c.rule_at-rule.ensures _ _ _ _ _ _
    c.depth_at-depth.ensures c.spoiler_at-spoiler.ensures _ c.compare.ensures)
    (omega (arith, table-long c.args.table.now, c.loop-i-test.true)) c.if-not-compare.true

pub loop-i-preserved : goal.loop-i-preserved
loop-i-preserved c =
    walk-goes (book_of (rules_of c.args.table.now)) _ _ _ _ _ c.requires c.loop-i.i _ _ _ c.loop-i.invariant
    (compared_at (rules_of c.args.table.now) _ _ c.loop-i.i c.rule_at-rule.result c.rule_at-rule.ensures _ _ _ _ _ _
    c.depth_at-depth.ensures c.spoiler_at-spoiler.ensures _ c.compare.ensures)
    c.if-not-compare.false

pub returns : goal.returns
returns c =
    walk_ends _ _ _ _ _ _ c.requires _ _ (omega (arith, table-long c.args.table.now, c.loop-i-test.false)) c.loop-i.invariant
