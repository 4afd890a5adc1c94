-- `from_rules::make` meets its contract. Assumes nothing.
use mathlib.Core.Path.{ap}
use mathlib.Core.Bool.{not}
use Rattle.from_rules.proofs.Making.{made-twice, made-bounded, made-relabelled}
use Rattle.from_rules.proofs.make.Goals as goal

pub returns-then-not-no_two_equal : goal.returns-then-not-no_two_equal
returns-then-not-no_two_equal c =
    made-twice c.args.table.now c.requires _ c.no_two_equal.ensures (ap not c.if-not-no_two_equal.true)

pub relabel-requires : goal.relabel-requires
relabel-requires c =
    made-bounded c.args.table.now c.requires _ c.no_two_equal.ensures

pub returns : goal.returns
returns c =
    made-relabelled c.args.table.now c.requires _ c.no_two_equal.ensures (ap not c.if-not-no_two_equal.false) _ _
    c.relabel.ensures
