-- `program_sheet::input_buffer` meets its contract. Assumes nothing.
use Prim.Native.Nat.{ℕ}
use mathlib.Core.Path.{sym}
use lib.ListN.{length-replicate}
use Rattle.sheet_meaning.specs.Sheets.{MOST}
use Rattle.program_sheet.proofs.input_buffer.Goals as goal

pub returns : goal.returns
returns c = sym (length-replicate {0} {A = ℕ} MOST 0)
