-- `strata::raise_in_order` keeps numbers that are weights of paths, whatever slots are named. Assumes nothing.
use mathlib.Core.Path.{◌∙◌}
use Rattle.theory.specs.Limits.{document}
use Rattle.table.specs.Words.{rules_of}
use Rattle.strata.proofs.Rounds.{guided-start}
use Rattle.strata.proofs.Arrays.{entries_below, guided-slot, head-below, read-in}
use Rattle.strata.proofs.raise_in_order.Goals as goal

pub loop-s-init : goal.loop-s-init
loop-s-init c = guided-start _ _ c.requires.1

pub needed-n-requires : goal.needed-n-requires
needed-n-requires c =
    let rows = rules_of c.args.table.now in
    entries_below rows _ c.rule_in-rule.result (read-in rows _ _ c.rule_in-rule.ensures) _ c.requires.0

pub raise-requires : goal.raise-requires
raise-requires c =
    let rows = rules_of c.args.table.now in
    head-below rows _ c.rule_in-rule.result (read-in rows _ _ c.rule_in-rule.ensures) _ _ _ c.requires.0
    c.needed-n.ensures

pub loop-s-preserved : goal.loop-s-preserved
loop-s-preserved c =
    let rows = rules_of c.args.table.now in
    guided-slot rows _ c.rule_in-rule.result (read-in rows _ _ c.rule_in-rule.ensures) document.atoms
    c.requires.0 _ c.loop-s.of _ (c.loop-s.invariant.long ∙ c.requires.2) c.loop-s.invariant _ _
    c.needed-n.ensures c.raise.ensures
