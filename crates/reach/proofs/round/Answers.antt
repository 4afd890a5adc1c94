-- `reach::round` meets its contract. The loop's invariant: the edges below i were followed, one after another.
-- Assumes nothing.
use native.Mathlib.Omega.{arith}
use Rattle.reach.proofs.Rounds.{round-start, round-next, round-end}
use borrow.Author.Rules.{rules}
use Rattle.reach.proofs.round.Goals as goal

pub loop-i-init : goal.loop-i-init
loop-i-init c = (omega arith, round-start _ _ _ _ _)

pub loop-i-preserved : goal.loop-i-preserved
loop-i-preserved c =
    let at = c.loop-i in (
      search rules,
      round-next _ _ _ _ at.i _ at.flags _ at.marked c.follow_edge-more.result
          (omega arith) (omega arith) (omega arith)
          at.invariant.1 c.follow_edge-more.ensures,
    )

pub returns : goal.returns
returns c = round-end _ _ _ _ c.loop-i.i _ _ _ (omega arith) c.loop-i.invariant.1
