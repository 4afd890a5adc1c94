use Prim.Native.Nat.{◌+◌, ◌*◌}
use Rattle.table.specs.Words.{rules_of}
use Rattle.fields.specs.Written.{Wrote}
use Rattle.file_blocks.specs.Files.{PLACE}
use Rattle.file_records.specs.Bytes.{records_bytes}
use Rattle.file_records.proofs.write_records.Given as goal

abbrev pub invariant-loop-k : goal.invariant-loop-k
invariant-loop-k l = Wrote (records_bytes (rules_of l.table) l.from l.k) l.initial.out l.at l.out (l.at + PLACE * l.k)
