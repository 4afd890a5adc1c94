-- `file_questions::block_summed` meets its contract. Assumes nothing.
use mathlib.Core.Path.{sym}
use Rattle.file_questions.proofs.Tests.{length-body, summed-not-a, summed-b}
use Rattle.file_questions.proofs.block_summed.Goals as goal

pub slice_bounds-sums-end : goal.slice_bounds-sums-end
slice_bounds-sums-end c = sym (length-body c.args.block.now c.requires)

pub returns-then-word_at-body : goal.returns-then-word_at-body
returns-then-word_at-body c =
    summed-not-a _ _ _ 0 0 c.word_at.ensures c.sums-body.ensures.0 c.if-word_at-body.true

pub returns : goal.returns
returns c =
    summed-b _ _ _ _ _ c.word_at.ensures c.sums-body.ensures.0 c.if-word_at-body.false c.word_at-2.ensures
    c.sums-body.ensures.1
