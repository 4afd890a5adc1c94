use Rattle.questions.proofs.Ascents.{Walk}
use Rattle.questions.proofs.clean.ascends.Given as goal

abbrev pub invariant-loop-j : goal.invariant-loop-j
invariant-loop-j l = Walk l.rule.entries l.from l.to l.j l.least
