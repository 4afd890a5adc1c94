use Prim.Native.Nat.{◌≤◌}
use lib.ListN.{length, drop}
use Rattle.tokens.specs.Tokens.{tokens}
use Rattle.places.specs.Places.{Onward}
use Rattle.sheet_lines.proofs.Entries.{Collecting}
use Rattle.sheet_lines.proofs.read.collect.Given as goal

abbrev pub invariant-loop-n : goal.invariant-loop-n
invariant-loop-n l =
    (l.next.offset ≤ length l.line)
    × Onward l.line l.initial.next l.next
    × Collecting l.initial.entries l.initial.count (tokens (drop l.initial.next.offset l.line))
    l.entries l.count (tokens (drop l.next.offset l.line))

abbrev pub decreases-loop-n : goal.decreases-loop-n
decreases-loop-n l = length (tokens (drop l.next.offset l.line))
