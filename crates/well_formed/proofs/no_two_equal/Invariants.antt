use Rattle.theory.specs.Limits.{document}
use Rattle.table.specs.Rules.{slot_of, program_of}
use Rattle.table.specs.Words.{rules_of}
use Rattle.well_formed.proofs.Links.{Linked, Following}
use Rattle.well_formed.proofs.no_two_equal.Given as goal

abbrev pub invariant-loop-link : goal.invariant-loop-link
invariant-loop-link l = Following (program_of (rules_of l.table)) (slot_of l.rule) l.i l.link

abbrev pub decreases-loop-link : goal.decreases-loop-link
decreases-loop-link l = l.link

abbrev pub invariant-loop-i : goal.invariant-loop-i
invariant-loop-i l = Linked (program_of (rules_of l.table)) document.slots l.last l.before l.i
