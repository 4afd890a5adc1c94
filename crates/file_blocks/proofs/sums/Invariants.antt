use Rattle.std.proofs.Common.{◌≡◌, take}
use Rattle.file_blocks.specs.Sums.{sum_a, sum_b}
use Rattle.file_blocks.proofs.sums.Given as goal

abbrev pub invariant-loop-x : goal.invariant-loop-x
invariant-loop-x l = (l.a ≡ sum_a (take l.x-index l.bytes)) × (l.b ≡ sum_b (take l.x-index l.bytes))
