-- `reason_atoms::entry_count` meets its contract. Assumes nothing.
use native.Mathlib.Omega.{arith}
use mathlib.Core.Path.{◌≡◌, sym, ap, ◌∙◌}
use lib.ListN.{length}
use Rattle.theory.specs.Limits.{document}
use Rattle.reason_atoms.specs.SupportEntries.{positives_if}
use Rattle.reason_atoms.proofs.SupportEntries.{positives-length}
use Rattle.reason_atoms.proofs.entry_count.Goals as goal

pub returns-then-not-is_in : goal.returns-then-not-is_in
returns-then-not-is_in c =
    let rule = c.args.rule in
    (sym (ap (λ b. length (positives_if b rule)) c.if-not-is_in.true), omega arith)

pub returns : goal.returns
returns c =
    let long : length c.args.rule.entries ≡ document.entries =
    c.well_formed.1.0.1.1.1.1.1.1.0.1.0.1 in
    let e = positives-length c.args.rule _ long in (
      c.positive_end.ensures ∙ e
          ∙ sym (ap (λ b. length (positives_if b c.args.rule)) c.if-not-is_in.false),
      omega (arith, c.positive_end.ensures),
    )
