use Rattle.std.proofs.Common.{◌≡◌, suc, ◌-◌, ◌≤◌, length}
use Rattle.theory.specs.Limits.{document}
use Rattle.table.specs.Rules.{active_of}
use Rattle.table.specs.Words.{rules_of}
use Rattle.table.specs.Sets.{member, number}
use Rattle.model.proofs.Visits.{Left}
use Rattle.model.proofs.Visits.{NoneFrom, Seen}
use Rattle.model.proofs.Rounds.{Going}
use Rattle.model.proofs.fill_stratum.Given as goal

abbrev pub invariant-loop-slot : goal.invariant-loop-slot
invariant-loop-slot l =
    Left (number l.strata) l.k (rules_of l.table) l.initial.found l.slot l.found l.adds × Seen (number l.strata) l.k (rules_of l.table) l.found l.end l.last l.slot
    × (l.end ≤ document.slots)

abbrev pub invariant-loop-end : goal.invariant-loop-end
invariant-loop-end l =
    Going (active_of (rules_of l.table)) (number l.strata) l.k (member l.initial.found) (member l.found) l.rounds
    × (length l.found ≡ length l.initial.found) × NoneFrom (number l.strata) l.k (rules_of l.table) l.found l.end × (l.end ≤ document.slots)

abbrev pub decreases-loop-end : goal.decreases-loop-end
decreases-loop-end l = suc document.slots - l.rounds
