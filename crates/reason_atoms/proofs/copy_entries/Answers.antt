-- `reason_atoms::copy_entries` meets its contract. The loop keeps: the entries below j were copied. Assumes nothing.
use native.Mathlib.Omega.{arith}
use Rattle.reason_atoms.specs.SupportEntries.{CopiedTo}
use Rattle.reason_atoms.proofs.SupportEntries.{copied-start, copied_next}
use mathlib.Core.Path.{◌≡◌, subst}
use Rattle.reason_atoms.proofs.copy_entries.Goals as goal

pub loop-j-init : goal.loop-j-init
loop-j-init c = (omega arith, copied-start _ _ _)

pub loop-j-preserved : goal.loop-j-preserved
loop-j-preserved c =
    let at = c.loop-j in
    (omega arith, copied_next _ _ _ at.j _ (omega (arith, c.requires.fits)) at.invariant.1)

pub returns : goal.returns
returns c =
    let at = c.loop-j in
    let e : at.j ≡ c.args.n = omega arith in
    subst (λ k. CopiedTo c.args.rule.entries k c.args.from c.args.entries.now at.entries) e at.invariant.1
