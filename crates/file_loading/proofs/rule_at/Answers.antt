-- `file_loading::rule_at` meets its contract. Assumes nothing.
use Rattle.file_loading.proofs.Slots.{fields_at}
use Rattle.file_loading.proofs.rule_at.Goals as goal

pub returns : goal.returns
returns c =
    let a = c.args in
    fields_at a.bytes.now a.at _ _ _ _ _ c.word_at-head.ensures c.state_of-state.ensures
    c.wide-positives.ensures c.wide-negatives.ensures
    c.entries_at-entries.ensures
