-- `tokens::ended` meets its contract: past the blanks stands the end where no token is left. Assumes nothing.
use mathlib.Core.Path.{ap}
use Rattle.places.specs.declared.Place.{Place}
use Rattle.tokens.proofs.Tokens.{empty-from}
use Rattle.tokens.proofs.ended.Goals as goal

pub returns : goal.returns
returns c =
    let args = c.args in
    empty-from args.line.now args.place.offset _
    (ap (λ (p : Place). p.offset) c.past_blanks-rest.ensures)
