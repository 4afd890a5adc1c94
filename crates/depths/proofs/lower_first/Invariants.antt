use Rattle.theory.specs.Limits.{document}
use Rattle.table.specs.Rules.{active_of}
use Rattle.table.specs.Sets.{member}
use Rattle.table.specs.Words.{rules_of}
use Rattle.depths.specs.Passes.{Found}
use Rattle.depths.proofs.lower_first.Given as goal

abbrev pub invariant-loop-s : goal.invariant-loop-s
invariant-loop-s l = Found (active_of (rules_of l.table)) (member l.model) document.atoms 0 l.found
