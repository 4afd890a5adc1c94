-- `table::slots::rule_at` meets its contract. Assumes nothing.
use mathlib.Core.Path.{sym, ◌∙◌}
use Rattle.table.proofs.Words.{rules-at}
use Rattle.table.proofs.slots.rule_at.Goals as goal

pub returns : goal.returns
returns c = c.read_rule.ensures ∙ sym (rules-at c.args.table.now c.args.slot c.requires)
