-- `file_calls::save` meets its contract. Assumes nothing.
use mathlib.Core.Path.{ap}
use mathlib.Core.Bool.{not}
use Rattle.table.specs.Words.{table_of}
use Rattle.table.specs.Sound.{Sound}
use Rattle.file_calls.proofs.Saved.{save-unsound, save-short, save-written}
use borrow.Author.Rules.{rules}
use Rattle.file_calls.proofs.save.Goals as goal

pub returns-then-not-sound : goal.returns-then-not-sound
returns-then-not-sound c =
    let s = c.args in
    save-unsound (table_of s.table.now) s.buffer.now _ c.sound.ensures (ap not c.if-not-sound.true)

pub returns-then-buffer-needed : goal.returns-then-buffer-needed
returns-then-buffer-needed c =
    let s = c.args in
    save-short (table_of s.table.now) (c.sound.ensures.0 c.if-not-sound.false) s.buffer.now c.held_slots-held.result
    c.held_slots-held.ensures c.blocks_for-n.result c.blocks_for-n.ensures (search rules)

pub write_file-requires : goal.write_file-requires
write_file-requires c =
    let sound : Sound (table_of c.args.table.now) = c.sound.ensures.0 c.if-not-sound.false in
    record {
      clean_slots = sound.clean;
      held_in = c.held_slots-held.ensures;
      blocks_value = (c.blocks_for-n.ensures, search rules);
    }

pub returns : goal.returns
returns c =
    let s = c.args in
    save-written (table_of s.table.now) (c.sound.ensures.0 c.if-not-sound.false) s.buffer.now c.held_slots-held.result
    c.held_slots-held.ensures c.blocks_for-n.result c.blocks_for-n.ensures _ c.write_file.ensures
