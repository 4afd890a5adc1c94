-- `questions::clean::ascends` meets its contract. Assumes nothing.
-- The loop keeps: what is left of the entries, none of it below `least`, answers for the whole.
use Prim.Native.Nat.{◌<◌}
use native.Mathlib.Omega.{arith}
use mathlib.Core.Path.{◌≡◌, sym, ◌∙◌}
use lib.ListN.{length, get_or}
use Rattle.theory.specs.Limits.{document}
use Rattle.table.specs.Rules.{no_atom}
use Rattle.theory.proofs.Lists.{ltb-lt}
use Rattle.questions.proofs.Ascents.{walk_start, walk-next, walk-low, walk-past, walk-over}
use Rattle.questions.proofs.clean.ascends.Goals as goal
use Rattle.questions.proofs.clean.ascends.Goals.{Else-not-head_fits, Start}

-- what owning the rule tells of its entries
long : (s : Start) → length s.args.rule.entries ≡ document.entries
long s = s.well_formed.0.1.1.1.1.1.1.0.1.0.1

pub loop-j-init : goal.loop-j-init
loop-j-init c = (let a = c.args in walk_start a.rule.entries a.from a.to)

pub returns-then-x-least : goal.returns-then-x-least
returns-then-x-least c =
    let a = c.args in
    let n = long c.before.before.before.before.before in
    let t = c.loop-j-test.true in
    walk-low a.rule.entries a.from a.to c.loop-j.j _ c.loop-j.invariant t (omega (arith, c.requires))
    c.if-x-least.true

pub returns-then-not-head_fits : goal.returns-then-not-head_fits
returns-then-not-head_fits c =
    let a = c.args in
    let n = long c.before.before.before.before.before.before.before in
    let t = c.loop-j-test.true in
    walk-past a.rule.entries a.from a.to c.loop-j.j _ c.loop-j.invariant t (omega (arith, c.requires))
    (sym c.head_fits.ensures ∙ c.if-not-head_fits.true)

-- the entry at hand passed the test
entry-low :
    (c : Else-not-head_fits)
    → (get_or c.args.rule.entries
    c.loop-j.j no_atom).0
    < document.atoms
entry-low c = ltb-lt _ _ (sym c.head_fits.ensures ∙ c.if-not-head_fits.false)

pub loop-j-preserved : goal.loop-j-preserved
loop-j-preserved c =
    let a = c.args in
    let n = long c.before.before.before.before.before.before.before in
    let t = c.loop-j-test.true in
    walk-next a.rule.entries a.from a.to c.loop-j.j _ c.loop-j.invariant t (omega (arith, c.requires))
    c.if-x-least.false (entry-low c)

pub returns : goal.returns
returns c =
    let a = c.args in
    walk-over a.rule.entries a.from a.to c.loop-j.j _ c.loop-j.invariant c.loop-j-test.false
