-- `file_saving::write_header` meets its contract. Assumes nothing.
use native.Mathlib.Omega.{arith}
use Rattle.fields.proofs.Wrote.{wrote_then, wrote-to}
use Rattle.file_saving.specs.Bytes.{header_bytes}
use Rattle.file_saving.proofs.write_header.Goals as goal

pub returns : goal.returns
unfolding header_bytes
returns c =
    let index = c.write_word.ensures in
    let blocks = c.write_word-2.ensures in
    let count = c.write_word-3.ensures in
    wrote_then (wrote-to _ index.place index)
    (wrote_then (wrote-to _ (omega (arith, blocks.place)) blocks) (wrote-to _ (omega (arith, count.place)) count))
