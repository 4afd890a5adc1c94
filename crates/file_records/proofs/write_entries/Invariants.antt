use Prim.Native.Nat.{◌+◌, ◌*◌}
use lib.ListN.{take}
use Rattle.table.specs.Rules.{numbers}
use Rattle.fields.specs.Written.{Wrote}
use Rattle.file_blocks.specs.Words.{words}
use Rattle.file_records.proofs.write_entries.Given as goal

abbrev pub invariant-loop-j : goal.invariant-loop-j
invariant-loop-j l = Wrote (words (numbers (take l.j l.a-items))) l.initial.out l.at l.out (l.at + 2 * l.j)
