use Prim.Native.Nat.{◌*◌}
use Rattle.table.specs.Words.{rules_of}
use Rattle.fields.specs.Written.{Wrote}
use Rattle.file_blocks.specs.Files.{BLOCK}
use Rattle.file_saving.proofs.Blocks.{first_blocks}
use Rattle.file_saving.proofs.write_file.Given as goal

abbrev pub invariant-loop-i : goal.invariant-loop-i
invariant-loop-i l = Wrote (first_blocks (rules_of l.table) l.blocks l.i) l.initial.out 0 l.out (BLOCK * l.i)
