-- `strata::needed` meets its contract. Assumes nothing.
use Rattle.theory.specs.Limits.{document}
use Rattle.strata.proofs.Numbers.{needed-held, positives-below, negatives-below}
use borrow.Author.Rules.{rules}
use Rattle.strata.proofs.needed.Goals as goal

pub greatest-positive-requires : goal.greatest-positive-requires
greatest-positive-requires c = (
  search rules,
  positives-below c.args.rule _ document.entries
      (c.well_formed.0.1.1.1.1.1.1.0.1.0.1) c.if-rule-eq0.false c.requires _
      c.positive_end-p.ensures,
)

pub greatest-negative-requires : goal.greatest-negative-requires
greatest-negative-requires c = (
  search rules,
  negatives-below c.args.rule _ document.entries
      (c.well_formed.0.1.1.1.1.1.1.0.1.0.1) c.if-rule-eq0.false
      c.requires _ c.positive_end-p.ensures _ c.negative_end-n.ensures,
)

pub returns : goal.returns
returns c =
    needed-held _ c.args.rule document.entries
    (c.well_formed.0.1.1.1.1.1.1.0.1.0.1)
    c.if-rule-eq0.false _ _
    c.positive_end-p.ensures c.negative_end-n.ensures
    _ _ _ c.greatest-positive.ensures c.greatest-negative.ensures c.max.ensures
