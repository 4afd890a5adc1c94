use lib.Dec.{eqb}
use Rattle.theory.specs.Rules.{passes}
use Rattle.table.specs.Rules.{slot_of}
use Rattle.table.specs.Words.{rules_of}
use Rattle.table.proofs.Copies.{Copied}
use Rattle.relations.proofs.justifying.Given as goal

abbrev pub invariant-loop-i : goal.invariant-loop-i
invariant-loop-i l = Copied (λ r. passes (λ q. eqb q.head l.a.0) (slot_of r)) (rules_of l.table) l.flags l.i
