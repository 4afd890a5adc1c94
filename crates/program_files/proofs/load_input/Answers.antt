-- `program_files::load_input` meets its contract. Assumes nothing.
use Rattle.std.proofs.Common.{◌≡◌, ◌∙◌, length, arith}
use Rattle.program_loop.specs.Takes.{SPACE}
use Rattle.program_files.proofs.Counting.{lines-counted, writes-first}
use Rattle.sheet_feed.proofs.Start.{start-sound}
use Rattle.program_files.proofs.load_input.Goals as goal

pub take_input-requires-clause-sound : goal.take_input-requires-clause-sound
take_input-requires-clause-sound c = start-sound _ c.start.ensures

-- What is handed to be shown lies in the buffer, and is what is printed of the bytes that were read.
pub show-requires : goal.show-requires
show-requires c =
    let size : length c.load_lines-answer.new.out ≡ SPACE =
    c.load_lines-answer.auto.out ∙ c.take_input.auto.out ∙ c.requires.1 in
    let told =
    lines-counted c.load_lines-answer.ensures (omega (arith, size, c.load_lines-answer.auto.out))
    c.count_of-printed.ensures in
    let kept = c.take_input.ensures.takes_input.takes in
    (told.0, omega (arith, told.0, size, kept.1), kept.2)

pub returns : goal.returns
returns c =
    let size : length c.load_lines-answer.new.out ≡ SPACE =
    c.load_lines-answer.auto.out ∙ c.take_input.auto.out ∙ c.requires.1 in
    let told =
    lines-counted c.load_lines-answer.ensures (omega (arith, size, c.load_lines-answer.auto.out))
    c.count_of-printed.ensures in
    let read = c.take_input.ensures.takes_input in
    record {
      room = c.take_input.auto.input ∙ c.requires.0;
      few = read.few;
      given = read.given;
      ended = read.ended read.takes.2;
      lines = told.1;
      writes = writes-first c.show.ensures read.takes.1;
    }
