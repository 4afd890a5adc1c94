-- `table::slots::rule_in` meets its contract. Past the end a slot reads as free. Assumes nothing.
use native.Mathlib.Omega.{arith}
use mathlib.Core.Path.{◌∙◌}
use Rattle.table.specs.Rules.{past_rule}
use Rattle.table.specs.Words.{rules_of}
use Rattle.table.specs.Clean.{free_rule}
use Rattle.table.proofs.Entries.{past, there}
use Rattle.table.proofs.Words.{rules-length}
use Rattle.table.proofs.slots.rule_in.Goals as goal

pub returns-then-i-lt-SLOTS : goal.returns-then-i-lt-SLOTS
returns-then-i-lt-SLOTS c =
    let w = c.args.table.now in
    c.rule_at.ensures ∙ there (rules_of w) c.args.s.0 past_rule free_rule
    (omega (arith, rules-length w, c.if-i-lt-SLOTS.true))

pub returns : goal.returns
returns c =
    let w = c.args.table.now in
    c.free.ensures ∙ past (rules_of w) c.args.s.0 free_rule (omega (arith, rules-length w, c.if-i-lt-SLOTS.false))
