-- `relations::has_head` meets its contract. Assumes nothing.
use mathlib.Core.Path.{refl}
use Rattle.relations.proofs.Passes.{test-held}
use Rattle.relations.proofs.has_head.Goals as goal

pub returns : goal.returns
returns c = test-held _ c.args.rule _ c.if-rule-eq0.false refl
