use Prim.Native.Nat.{◌+◌, ◌*◌, ◌≤◌}
use lib.ListN.{length, take}
use Rattle.fields.specs.Fields.{fields}
use Rattle.fields.specs.Written.{Wrote}
use Rattle.sheet_printing.proofs.write_fields.Given as goal

abbrev pub invariant-loop-n : goal.invariant-loop-n
invariant-loop-n l = (l.n-index ≤ length l.numbers) × (l.next ≤ l.at + 11 * l.n-index) × Wrote (fields (take l.n-index l.numbers)) l.initial.out l.at l.out l.next
