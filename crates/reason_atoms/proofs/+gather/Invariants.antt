-- The cycle of calls {gather}. The measure is the depth, which the test before the call makes fall. The loop's invariant:
-- the atom and the first j of its copied entries were gathered.
use Rattle.table.specs.Sets.{number}
use Rattle.reason_atoms.proofs.Gathering.{Gathering}
use Rattle.reason_atoms.proofs.+gather.Given as goal

abbrev pub decreases-gather : goal.decreases-gather
decreases-gather l = l.depth

abbrev pub invariant-loop-j : goal.invariant-loop-j
invariant-loop-j l = Gathering l.counts l.entries (number l.depths) l.a.0 l.depth l.j l.fn.seen l.seen
