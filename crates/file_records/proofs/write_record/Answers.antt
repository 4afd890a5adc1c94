-- `file_records::write_record` meets its contract. Assumes nothing.
use native.Mathlib.Omega.{arith}
use mathlib.Core.Path.{◌≡◌}
use lib.ListN.{length}
use Rattle.theory.specs.Limits.{document}
use Rattle.fields.proofs.Wrote.{wrote-to}
use Rattle.file_records.proofs.Records.{wrote-record}
use borrow.Author.Rules.{rules}
use Rattle.file_records.proofs.write_record.Goals as goal

pub returns : goal.returns
returns c =
    let long : length c.args.rule.entries ≡ document.entries = search rules in
    let slot = c.write_word.ensures in
    let head = c.write_word-2.ensures in
    wrote-record c.args.rule long c.requires.clean_rule c.args.at c.args.slot.0 _ c.requires.place_in_bounds
    c.count_byte.ensures (wrote-to _ slot.place slot) (wrote-to _ (omega (arith, head.place)) head)
    (wrote-to _ (omega arith) c.write_entries.ensures)
