use Prim.Native.Nat.{◌-◌}
use Rattle.theory.specs.Limits.{document}
use Rattle.table.specs.Sets.{member, number}
use Rattle.table.specs.Rules.{book_of}
use Rattle.table.specs.Words.{rules_of, depth_at, spoiler_at}
use Rattle.certificate.proofs.Walk.{Walked}
use Rattle.certificate.proofs.confirmed.Given as goal

abbrev pub invariant-loop-i : goal.invariant-loop-i
invariant-loop-i l =
    Walked (book_of (rules_of l.table)) (member l.flags) (number l.depths) (depth_at l.table) (spoiler_at l.table)
    document.atoms l.given l.i
