use mathlib.Core.Path.{◌≡◌}
use lib.Seq.{slice}
use Rattle.theory.specs.Lists.{every}
use Rattle.table.specs.Sets.{number}
use Rattle.table.specs.Rules.{numbers, rule_of}
use Rattle.depths.specs.Numbers.{within}
use Rattle.depths.proofs.below.Given as goal

abbrev pub invariant-loop-a : goal.invariant-loop-a
invariant-loop-a l =
    every (within (number l.depths) l.limit) (numbers (slice l.a-index l.a-index-end l.a-items))
    ≡ every (within (number l.depths) l.limit) (rule_of l.fn.rule).positives
