use Rattle.table.specs.Rules.{book_of}
use Rattle.table.specs.Words.{rules_of}
use Rattle.table.specs.Sets.{number}
use Rattle.model.proofs.Rounds.{Between}
use Rattle.model.proofs.in_atoms.Given as goal

abbrev pub invariant-loop-k : goal.invariant-loop-k
invariant-loop-k l = Between (book_of (rules_of l.table)) (number l.strata) l.top l.k l.found l.rounds
