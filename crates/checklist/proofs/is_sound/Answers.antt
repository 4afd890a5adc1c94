-- `checklist::is_sound` tells whether the table is sound. Assumes nothing.
use native.Mathlib.Omega.{arith}
use Rattle.table.specs.Words.{table_of}
use Rattle.checklist.proofs.Labels.{told-sound}
use Rattle.checklist.proofs.is_sound.Goals as goal

pub returns : goal.returns
returns c =
    rw c.is_ok.ensures.value (told-sound (table_of c.args.table.now) 0 (omega arith) c.label.ensures)
