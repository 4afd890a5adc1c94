-- `reading::labels_of` answers the labels that the table says. Assumes nothing.
use Rattle.reading.proofs.Assembled.{all-labels}
use Rattle.reading.proofs.labels_of.Goals as goal

pub returns : goal.returns
returns c = (
  c.assemble.ensures.long,
  all-labels _ c.arrays_of-kept.result _ _ c.arrays_of-kept.ensures c.occurring-there.ensures
      c.assemble.ensures,
)
