use Rattle.history_replay.proofs.Replaying.{Going}
use Rattle.history_replay.proofs.replay.Given as goal

abbrev pub invariant-loop-i : goal.invariant-loop-i
invariant-loop-i l = Going l.words l.files l.initial.answers l.at l.i l.table l.answers
