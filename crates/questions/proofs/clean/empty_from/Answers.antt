-- `questions::clean::empty_from` meets its contract. Assumes nothing.
use native.Mathlib.Omega.{arith}
use mathlib.Core.Path.{◌≡◌}
use lib.ListN.{length}
use Rattle.theory.specs.Limits.{document}
use Rattle.questions.proofs.Cleanness.{nothing-added}
use Rattle.questions.proofs.clean.empty_from.Goals as goal
use Rattle.questions.proofs.clean.empty_from.Goals.{Start}

-- what owning the rule tells of its entries
long : (s : Start) → length s.args.rule.entries ≡ document.entries
long s = s.well_formed.0.1.1.1.1.1.1.0.1.0.1

pub returns : goal.returns
returns c =
    let n = long c.before.before.before in
    nothing-added c.args.rule.entries c.args.from document.entries (omega (arith, c.if-from-ge-ENTRIES.false)) (omega arith)
    _ _ c.sum_to.ensures c.sum_to-2.ensures
