-- `file_questions::check_block` meets its contract. Assumes nothing.
use mathlib.Core.Path.{ap}
use mathlib.Core.Bool.{Bool, ◌&&◌}
use Rattle.file_questions.proofs.check_block.Goals as goal

pub returns : goal.returns
returns c =
    let b = c.args.before in
    record {
      summed = ap (λ (t : Bool). b.summed && t) c.block_summed-summed.ensures;
      numbered = ap (λ (t : Bool). b.numbered && t) c.block_numbered-numbered.ensures;
      filled = ap (λ (t : Bool). b.filled && t) c.block_filled-filled.ensures;
    }
