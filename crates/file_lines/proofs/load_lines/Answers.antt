-- `file_lines::load_lines` meets its contract. Assumes nothing.
use Rattle.std.specs.Prelude.{Ok, Err}
use native.Mathlib.Omega.{arith}
use mathlib.Core.Path.{ap}
use Rattle.theory.specs.Limits.{document}
use Rattle.fields.specs.Texts.{bytes}
use Rattle.sheet_meaning.proofs.Unique.{labels-same}
use Rattle.file_lines.specs.Loads.{refused_line, short}
use Rattle.file_lines.proofs.Telling.{loaded-bounded, told-lines}
use Rattle.file_lines.proofs.load_lines.Goals as goal

pub returns-then-out-lt-LABELS_ROOM : goal.returns-then-out-lt-LABELS_ROOM
returns-then-out-lt-LABELS_ROOM c = short (omega arith)

pub labels_of-labels-requires : goal.labels_of-labels-requires
labels_of-labels-requires c =
    loaded-bounded c.load.ensures c.in-Ok.is

pub returns-in-Ok : goal.returns-in-Ok
returns-in-Ok c =
    told-lines (Ok tt) c.if-out-lt-LABELS_ROOM.false c.load.ensures c.in-Ok.is
    (labels-same _ _ document.atoms c.labels_of-labels.ensures.1)
    (c.write_labels.ensures.fits (omega arith))

pub returns-in-Err : goal.returns-in-Err
unfolding bytes
returns-in-Err c =
    told-lines (Err _) c.if-out-lt-LABELS_ROOM.false c.load.ensures c.in-Err.is
    (ap refused_line c.refusal_number.ensures) (c.write_named.ensures.fits (omega arith))
