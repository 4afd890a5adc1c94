-- `strata::greatest` meets its contract: what is found and what is left give the whole. Assumes nothing.
use Prim.Native.Nat.{◌≤◌}
use native.Mathlib.Omega.{arith}
use mathlib.Core.Path.{◌≡◌}
use lib.ListN.{length}
use Rattle.theory.specs.Limits.{document}
use Rattle.strata.proofs.Numbers.{walked-over, walked_next, entry-below, rest_below}
use Rattle.strata.proofs.greatest.Goals as goal

pub loop-j-init : goal.loop-j-init
loop-j-init c = (c.requires.1, omega arith)

-- the entry come to is an atom of the table
pub number_at-n-requires : goal.number_at-n-requires
number_at-n-requires c =
    let long : length c.args.rule.entries ≡ document.entries =
    c.well_formed.0.1.1.1.1.1.1.0.1.0.1 in
    let t = c.loop-j in
    entry-below c.args.rule.entries _ t.j c.args.to t.invariant.0 c.loop-j-test.true
    (omega (arith, c.requires.0))

pub loop-j-preserved : goal.loop-j-preserved
loop-j-preserved c =
    let long : length c.args.rule.entries ≡ document.entries =
    c.well_formed.0.1.1.1.1.1.1.0.1.0.1 in
    let k : c.args.to ≤ length c.args.rule.entries = omega (arith, c.requires.0) in
    let t = c.loop-j in
    let l = c.loop-j-test.true in (
      rest_below c.args.rule.entries _ t.j c.args.to t.invariant.0 l k,
      walked_next _ _ c.args.rule.entries t.j c.args.to _ _ _ _ l k
          c.number_at-n.ensures c.max-most.ensures t.invariant.1,
    )

pub returns : goal.returns
returns c = walked-over _ _ _ _ _ _ _ c.loop-j-test.false c.loop-j.invariant.1
