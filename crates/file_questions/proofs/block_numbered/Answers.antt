-- `file_questions::block_numbered` meets its contract. Assumes nothing.
use Rattle.file_questions.proofs.Tests.{numbered-index, numbered-blocks, numbered-count}
use Rattle.file_questions.proofs.block_numbered.Goals as goal

pub returns-then-i-index : goal.returns-then-i-index
returns-then-i-index c =
    let s = c.args in
    numbered-index s.blocks s.index s.block.now _ c.word_at-i.ensures c.if-i-index.true

pub returns-then-n-blocks : goal.returns-then-n-blocks
returns-then-n-blocks c =
    let s = c.args in
    numbered-blocks s.blocks s.index s.block.now _ c.word_at-i.ensures c.if-i-index.false _ c.word_at-n.ensures
    c.if-n-blocks.true

pub returns : goal.returns
returns c =
    let s = c.args in
    numbered-count s.blocks s.index s.block.now _ c.word_at-i.ensures c.if-i-index.false _ c.word_at-n.ensures
    c.if-n-blocks.false _ c.word_at-count.ensures _ c.counted.ensures
