-- `file_saving::write_file` meets its contract. The loop keeps: the blocks passed are written. Assumes nothing.
use native.Mathlib.Omega.{arith}
use Rattle.file_saving.proofs.Blocks.{wrote-no-block, wrote-next-block, wrote-file}
use Rattle.file_saving.proofs.write_file.Goals as goal

pub loop-i-init : goal.loop-i-init
loop-i-init c = wrote-no-block _ _ _

pub loop-i-preserved : goal.loop-i-preserved
loop-i-preserved c =
    let l = c.loop-i in
    wrote-next-block _ _ l.i l.invariant c.write_block.ensures

pub returns : goal.returns
returns c =
    let l = c.loop-i in
    wrote-file _ _ c.args.held l.i c.requires.held_in c.requires.blocks_value.0 (omega arith) l.invariant
