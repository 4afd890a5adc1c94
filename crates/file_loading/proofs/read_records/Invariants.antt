use mathlib.Core.Path.{◌≡◌}
use lib.ListN.{length}
use Rattle.table.specs.Words.{rules_of}
use Rattle.file_blocks.specs.Questions.{blocks, places_of}
use Rattle.file_loading.proofs.Gathering.{Going}
use Rattle.file_loading.proofs.read_records.Given as goal

abbrev pub invariant-loop-k : goal.invariant-loop-k
invariant-loop-k l = (l.count ≡ length (places_of (blocks l.bytes))) × Going (places_of (blocks l.bytes)) (rules_of l.words) l.least l.k
