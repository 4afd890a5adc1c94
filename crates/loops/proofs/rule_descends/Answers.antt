-- `loops::rule_descends` meets its contract. Assumes nothing.
use Rattle.loops.proofs.Descent.{entries-of, head_of, descent}
use Rattle.loops.proofs.rule_descends.Goals as goal

pub needed-n-requires : goal.needed-n-requires
needed-n-requires c = (entries-of _ c.args.rule c.requires)

pub number_at-head-requires : goal.number_at-head-requires
number_at-head-requires c =
    head_of _ c.args.rule c.requires c.if-rule-eq0.false

pub returns : goal.returns
returns c =
    descent _ c.args.rule c.if-rule-eq0.false _ _ c.needed-n.ensures c.number_at-head.ensures
