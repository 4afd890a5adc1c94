use Rattle.theory.specs.Lists.{greatest}
use Rattle.table.specs.Sets.{number}
use Rattle.table.specs.Rules.{rule_of}
use Rattle.depths.proofs.Greatest.{Walked}
use Rattle.depths.proofs.level.Given as goal

abbrev pub invariant-loop-a : goal.invariant-loop-a
invariant-loop-a l = Walked (number l.depths) l.a-items l.a-index-end (greatest (number l.depths) (rule_of l.fn.rule).positives) l.most l.a-index
