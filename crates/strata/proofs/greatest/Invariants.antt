use Prim.Native.Nat.{max}
use mathlib.Core.Path.{◌≡◌}
use lib.Seq.{slice}
use Rattle.theory.specs.Lists.{greatest}
use Rattle.theory.specs.Limits.{document}
use Rattle.table.specs.Sets.{number}
use Rattle.table.specs.Rules.{numbers}
use Rattle.strata.specs.Needed.{plus, AllBelow}
use Rattle.strata.proofs.greatest.Given as goal

abbrev pub invariant-loop-j : goal.invariant-loop-j
invariant-loop-j l =
    AllBelow document.atoms (numbers (slice l.j l.to l.rule.entries))
    × max l.most (greatest (plus l.step (number l.kept)) (numbers (slice l.j l.to l.rule.entries)))
    ≡ greatest (plus l.step (number l.kept)) (numbers (slice l.from l.to l.rule.entries))
