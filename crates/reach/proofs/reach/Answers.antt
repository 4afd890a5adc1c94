-- `reach::reach` meets its contract. The loop's invariant: each member is reached, and once a round brings none in,
-- every edge was followed. The measure: the atoms outside the set, and the last round. Assumes nothing.
use Rattle.theory.specs.Limits.{document}
use Rattle.reach.proofs.Rounds.{rounds-start, rounds-next, rounds-fewer, rounds-over}
use Rattle.reach.proofs.reach.Goals as goal

pub loop-again-init : goal.loop-again-init
loop-again-init c = rounds-start _ _ _ _ document.atoms

pub loop-again-smaller : goal.loop-again-smaller
loop-again-smaller c =
    let at = c.loop-again in
    rounds-fewer _ _ _ _ _ _ at.again _ c.loop-again-test.true c.round-again.ensures

pub loop-again-preserved : goal.loop-again-preserved
loop-again-preserved c =
    let at = c.loop-again in
    rounds-next _ _ _ _ at.flags _ at.again _ at.invariant c.round-again.ensures

pub returns : goal.returns
returns c =
    let at = c.loop-again in
    rounds-over _ _ _ _ at.flags at.again c.loop-again-test.false at.invariant
