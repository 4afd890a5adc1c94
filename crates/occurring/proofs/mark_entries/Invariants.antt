use lib.ListN.{take}
use Rattle.table.specs.Rules.{numbers}
use Rattle.occurring.specs.Marks.{Marked}
use Rattle.occurring.proofs.mark_entries.Given as goal

abbrev pub invariant-loop-a : goal.invariant-loop-a
invariant-loop-a l = Marked (numbers (take l.a-index l.a-items)) l.initial.flags l.flags
