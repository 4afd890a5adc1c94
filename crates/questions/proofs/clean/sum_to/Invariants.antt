use Prim.Native.Nat.{◌*◌, ◌≤◌}
use mathlib.Core.Path.{◌≡◌}
use Rattle.questions.specs.Sums.{sum_to}
use Rattle.questions.proofs.clean.sum_to.Given as goal

abbrev pub invariant-loop-a : goal.invariant-loop-a
invariant-loop-a l = (l.sum ≤ 65535 * l.a-index) × (l.sum ≡ sum_to l.fn.rule.entries l.a-index)
