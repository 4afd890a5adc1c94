-- The loop keeps: standard input gave what was read so far, and the task was done on all of it. The measure is the room
-- that is left, and one turn more as long as the last read gave something.
use Rattle.std.proofs.Common.{◌≡◌, ◌+◌, ◌-◌, length}
use Rattle.std.specs.Prelude.{min}
use Rattle.table.specs.Sound.{Sound}
use Rattle.program_loop.proofs.Taking.{SoFar}
use Rattle.program_loop.proofs.take_input.Given as goal

abbrev pub invariant-loop-lost : goal.invariant-loop-lost
invariant-loop-lost l = record {
  same_input : length l.input ≡ length l.initial.input;
  same_out : length l.out ≡ length l.initial.out;
  so_far : SoFar l.task l.initial.s l.input (length l.out) l.read l.got l.shown l.lost l.s;
  sound : Sound l.s.table;
}

abbrev pub decreases-loop-lost : goal.decreases-loop-lost
decreases-loop-lost l = length l.initial.input - l.read + min l.got 1
