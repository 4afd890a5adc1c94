-- `sheet_commands::explain` meets its contract. Assumes nothing.
use native.Mathlib.Omega.{arith}
use Rattle.sheet_meaning.specs.Lines as prints
use Rattle.sheet_commands.proofs.Reasons.{list_counts}
use Rattle.sheet_commands.proofs.explain.Goals as goal

pub tell_reason-requires : goal.tell_reason-requires
tell_reason-requires c =
    (list_counts (omega arith) c.reason_of_sound-answer.ensures, c.requires.1)

pub returns : goal.returns
returns c =
    λ line e. record {
      printed = _;
      prints = prints.why _ _ _ e c.reason_of_sound-answer.ensures;
      wrote = c.tell_reason.ensures;
    }
