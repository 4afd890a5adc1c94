-- `file_questions::block_filled` meets its contract. Assumes nothing.
use native.Mathlib.Omega.{arith}
use mathlib.Core.Path.{◌∙◌}
use lib.ListN.{take, length-take}
use Rattle.std.specs.Prelude.{nat_eq}
use Rattle.std.proofs.lemmas.Iterator.{YieldsList-from_slice}
use Rattle.std.proofs.lemmas.Iterator.Adapters.{YieldsList-from_skip}
use Rattle.std.proofs.lemmas.Iterator.Consumers.{YieldsList-at}
use Rattle.std.proofs.lemmas.Iterator.Search.{all_from_yields_List}
use Rattle.std.proofs.Common.{rules, tests}
use Rattle.file_questions.proofs.Filler.{filler-told}
use Rattle.file_questions.proofs.block_filled.Goals as goal

pub slice_bounds-iter-end : goal.slice_bounds-iter-end
slice_bounds-iter-end c = simp length-take (omega (arith, c.requires))

pub returns : goal.returns
returns c =
    all_from_yields_List (nat_eq 0) _ _ c.all.result c.all.ensures.ran
    (YieldsList-from_skip _ (YieldsList-at c.skip.ensures.source (YieldsList-from_slice (take 508 c.args.block.now) cc))
    c.skip.ensures.count)
    (λ x b q k. search (rules, tests))
    ∙ filler-told c.args.block.now _ c.word_at-count.ensures
