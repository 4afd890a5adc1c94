-- `file_saving::write_sums` meets its contract. Assumes nothing.
use Rattle.file_saving.proofs.Blocks.{wrote-sums}
use Rattle.file_saving.proofs.write_sums.Goals as goal

pub returns : goal.returns
returns c =
    let told = c.sums-pair.ensures in
    wrote-sums c.args.at _ _ told.0 told.1 c.write_word.ensures c.write_word-2.ensures
