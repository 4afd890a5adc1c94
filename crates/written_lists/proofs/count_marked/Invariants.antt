use Prim.Native.Nat.{◌≤◌}
use mathlib.Core.Path.{◌≡◌}
use lib.ListN.{length}
use Rattle.table.specs.Sets.{member}
use Rattle.written_lists.specs.Lists.{below}
use Rattle.written_lists.proofs.count_marked.Given as goal

abbrev pub invariant-loop-flag : goal.invariant-loop-flag
invariant-loop-flag l = (l.flag-index ≤ length l.flags) × (l.n ≡ length (below (member l.flags) l.flag-index))
