-- `file_blocks::write_word` meets its contract. Assumes nothing.
use Rattle.std.proofs.Common.{refl, length-set, rules}
use Rattle.file_blocks.proofs.Words.{two-sets-put}
use Rattle.file_blocks.proofs.write_word.Goals as goal

pub bounds-out-at-2 : goal.bounds-out-at-2
bounds-out-at-2 c = rw length-set (search rules)

pub returns : goal.returns
returns c = record { room = search rules; buffer = two-sets-put _ _ _ _ (search rules); place = refl }
