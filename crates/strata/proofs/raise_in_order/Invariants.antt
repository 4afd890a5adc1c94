use Rattle.table.specs.Rules.{program_of}
use Rattle.table.specs.Words.{rules_of}
use Rattle.strata.specs.Needed.{Guided}
use Rattle.strata.proofs.raise_in_order.Given as goal

abbrev pub invariant-loop-s : goal.invariant-loop-s
invariant-loop-s l = Guided (program_of (rules_of l.table)) l.initial.of l.of
