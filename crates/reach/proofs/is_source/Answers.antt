-- `reach::is_source` meets its contract. Assumes nothing.
use Rattle.reach.proofs.Rounds.{source-start, source-else}
use Rattle.reach.proofs.is_source.Goals as goal

pub returns-then-a-start : goal.returns-then-a-start
returns-then-a-start c =
    let args = c.args in
    source-start _ args.flags.now _ c.if-a-start.true

pub returns : goal.returns
returns c =
    let args = c.args in
    source-else _ args.flags.now _ _ c.if-a-start.false c.has.ensures
