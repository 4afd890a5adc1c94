-- `rule::valid` meets its contract: a rule is valid exactly if no entry spoils it. Assumes nothing.
use Rattle.table.proofs.Entries.{unspoiled-valid}
use Rattle.rule.proofs.valid.Goals as goal

pub returns : goal.returns
returns c = unspoiled-valid _ _ _ _ c.spoiler.ensures c.is_none.ensures
