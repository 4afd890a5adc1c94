use Prim.Native.Nat.{◌/◌}
use mathlib.Core.Path.{◌≡◌}
use lib.ListN.{length}
use Rattle.file_questions.proofs.Blocks.{Asked}
use Rattle.file_questions.proofs.check_blocks.Given as goal

abbrev pub invariant-loop-i : goal.invariant-loop-i
invariant-loop-i l = (l.blocks ≡ length l.bytes / 512) × Asked l.bytes l.blocks l.checked l.i
