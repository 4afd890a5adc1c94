-- `sheet_scanner::judge` meets its contract. Assumes nothing.
use native.Mathlib.Omega.{arith}
use mathlib.Core.Path.{◌∙◌}
use Rattle.fields.proofs.Wrote.{wrote_nothing}
use Rattle.sheet_meaning.specs.Lines as prints
use Rattle.sheet_scanner.proofs.Judging.{told}
use Rattle.sheet_scanner.proofs.judge.Goals as goal

pub returns-in-Blank : goal.returns-in-Blank
returns-in-Blank c =
    λ line e. record {
      printed = _;
      prints = λ t. prints.blank (e ∙ told c.args.parsed _ c.in-Blank.is);
      wrote = wrote_nothing (omega arith);
    }

pub returns-in-LineTooLong : goal.returns-in-LineTooLong
returns-in-LineTooLong c =
    λ line e. record {
      printed = _;
      prints = λ t. prints.long (e ∙ told c.args.parsed _ c.in-LineTooLong.is);
      wrote = c.write_refusal.ensures.fits (omega arith);
    }
