use Prim.Native.Nat.{◌≤◌}
use mathlib.Core.Path.{◌≡◌}
use lib.ListN.{length}
use Rattle.table.specs.Sets.{member}
use Rattle.written_lists.specs.Lists.{below}
use Rattle.written_lists.specs.Written.{Appends}
use Rattle.written_lists.proofs.write_marked.Given as goal

abbrev pub invariant-loop-i : goal.invariant-loop-i
invariant-loop-i l = (l.i ≤ length l.flags) × (length l.buffer ≡ length l.initial.buffer) × Appends (below (member l.flags) l.i) 0 l.n l.initial.buffer l.buffer
