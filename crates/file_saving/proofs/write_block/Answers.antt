-- `file_saving::write_block` meets its contract. Assumes nothing.
use native.Mathlib.Omega.{arith}
use Rattle.table.specs.Words.{rules_of}
use Rattle.fields.proofs.Wrote.{wrote-to}
use Rattle.file_saving.proofs.Blocks.{wrote-block}
use Rattle.file_saving.proofs.write_block.Goals as goal

pub write_records-requires : goal.write_records-requires
write_records-requires c =
    record { clean_slots = c.requires.clean_slots; held_in = c.requires.held_in; count_bound = omega arith }

pub returns : goal.returns
returns c =
    wrote-to _ (omega arith)
    (wrote-block (rules_of c.args.table.now) c.args.index c.args.blocks _ (omega (arith, c.requires.held_in))
    c.write_header.ensures c.write_records.ensures c.write_zeros.ensures
    c.write_sums.ensures)
