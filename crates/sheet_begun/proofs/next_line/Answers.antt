-- `sheet_begun::next_line` meets its contract. Assumes nothing.
use mathlib.Core.Path.{ap}
use Rattle.places.specs.declared.Place.{Place}
use Rattle.sheet_begun.specs.declared.Begun.{Begun}
use Rattle.sheet_begun.proofs.next_line.Goals as goal

pub returns : goal.returns
returns c =
    let a = c.args in
    let next : Place → Begun = λ (p : Place). record { number = p.line; bytes = a.begun.bytes; length = 0 } in
    ap next c.next_line-next.ensures
