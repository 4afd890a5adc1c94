-- `questions::clean::sum_to` meets its contract. The sum fits, since each entry is a number of 16 bits. Assumes nothing.
use Prim.Native.Nat.{◌<◌}
use native.Mathlib.Omega.{arith}
use mathlib.Core.Path.{refl, ap}
use Rattle.std.proofs.lemmas.List.{get_or-take, length-take}
use Rattle.table.specs.Rules.{no_atom}
use Rattle.questions.specs.Sums.{sum_to}
use Rattle.questions.proofs.Cleanness.{sum-next}
use Rattle.questions.proofs.clean.sum_to.Goals as goal

pub loop-a-init : goal.loop-a-init
unfolding sum_to
loop-a-init c = (omega arith, refl)

pub loop-a-preserved : goal.loop-a-preserved
loop-a-preserved c =
    let xs = c.args.rule.entries in
    let i = c.loop-a.a-index in
    let l : i < c.args.to = omega (arith, length-take c.args.to xs) in
    let e = ap (λ a. a.0) (get_or-take c.args.to xs i no_atom l) in
    (omega arith, omega (arith, sum-next xs i, e, c.loop-a.invariant.1))
