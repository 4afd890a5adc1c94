-- `well_formed::slot_key` meets its contract. Assumes nothing.
use mathlib.Core.Path.{sym, ap, ◌∙◌}
use Rattle.well_formed.specs.Keys.{slot_key}
use Rattle.table.proofs.Programs.{slot-free, slot_held}
use Rattle.well_formed.proofs.slot_key.Goals as goal

pub returns-then-rule-eq0 : goal.returns-then-rule-eq0
returns-then-rule-eq0 c = sym (ap slot_key (slot-free c.args.rule c.if-rule-eq0.true))

pub returns : goal.returns
returns c =
    c.key.ensures ∙ sym (ap slot_key (slot_held c.args.rule c.if-rule-eq0.false))
