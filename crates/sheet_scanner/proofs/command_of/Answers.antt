-- `sheet_scanner::command_of` meets its contract. Assumes nothing.
use native.Mathlib.Omega.{arith}
use Rattle.sheet_scanner.proofs.Judging.{no_command-keys, unread}
use Rattle.sheet_scanner.proofs.command_of.Goals as goal

pub returns-in_default : goal.returns-in_default
returns-in_default c =
    let p = c.args.parsed in
    unread p (no_command-keys p.reading c.in_default.not-Command) (c.write_refusal.ensures.fits (omega arith))
