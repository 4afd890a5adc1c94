-- The loop keeps: the bytes before the offset were fed. The measure is what is left of the piece: with room for a reply
-- each turn reads at least a byte.
use Rattle.std.proofs.Common.{◌≡◌, ◌-◌, length}
use Rattle.table.specs.Sound.{Sound}
use Rattle.program_loop.proofs.Answering.{PieceSoFar}
use Rattle.program_loop.proofs.answer.Given as goal

abbrev pub invariant-loop-lost : goal.invariant-loop-lost
invariant-loop-lost l = record {
  same_length : length l.out ≡ length l.initial.out;
  so_far : PieceSoFar l.initial.s l.showing l.piece (length l.out) l.initial.shown l.shown l.lost l.s l.from;
  sound : Sound l.s.table;
}

abbrev pub decreases-loop-lost : goal.decreases-loop-lost
decreases-loop-lost l = length l.piece - l.from
