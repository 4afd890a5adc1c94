-- `rule::first_standing` meets its contract. Assumes nothing.
-- The loop keeps: the first entry of what is left of the part stands where the first of the whole of it does.
use native.Mathlib.Omega.{arith}
use mathlib.Core.Path.{◌≡◌, refl, sym, ◌∙◌}
use lib.ListN.{length}
use Rattle.theory.specs.Limits.{document}
use Rattle.table.proofs.Members.{stands, stands-not}
use Rattle.table.proofs.Entries.{before-over, before-next, before-stop}
use Rattle.rule.proofs.first_standing.Goals as goal

pub loop-j-init : goal.loop-j-init
loop-j-init c = refl

pub returns-then-has-wanted : goal.returns-then-has-wanted
returns-then-has-wanted c =
    let k : length c.args.rule.entries ≡ document.entries = c.well_formed.0.1.1.1.1.1.1.0.1.0.1 in (
      c.loop-j-test.true,
      sym (before-stop _ c.args.rule.entries c.loop-j.j _ c.loop-j-test.true (omega arith)
          (stands _ _ _ _ c.has.ensures c.if-has-wanted.true))
          ∙ c.loop-j.invariant,
    )

pub loop-j-preserved : goal.loop-j-preserved
loop-j-preserved c =
    let k : length c.args.rule.entries ≡ document.entries = c.well_formed.0.1.1.1.1.1.1.0.1.0.1 in
    sym (before-next _ c.args.rule.entries c.loop-j.j _ c.loop-j-test.true (omega arith)
    (stands-not _ _ _ _ c.has.ensures c.if-has-wanted.false))
    ∙ c.loop-j.invariant

pub returns : goal.returns
returns c =
    let at = sym (before-over _ _ _ _ c.loop-j-test.false) ∙ c.loop-j.invariant in
    omega (arith, at, c.loop-j-test.false)
