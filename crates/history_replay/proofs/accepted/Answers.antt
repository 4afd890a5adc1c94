-- `history_replay::accepted` meets its contract. Assumes nothing.
use native.Mathlib.Omega.{arith}
use Rattle.history_replay.proofs.Stepping.{small, accepted-refused}
use Rattle.history_replay.proofs.accepted.Goals as goal

pub overflow_add-result : goal.overflow_add-result
overflow_add-result c = omega (arith, small c.in-Err.f _ c.refusal_number.ensures)

pub returns-in-Err : goal.returns-in-Err
returns-in-Err c = accepted-refused _ _ _ c.in-Err.is c.refusal_number.ensures
