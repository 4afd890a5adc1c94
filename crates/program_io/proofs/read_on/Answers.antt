use Rattle.std.proofs.Common.{◌-◌, length, arith}
use Rattle.program_io.proofs.Reading.{reads-behind}
use Rattle.program_io.proofs.read_on.Goals as goal

pub returns : goal.returns
returns c =
    reads-behind c.args.input.now _ c.args.read.now (length c.args.input.now - c.args.read.now) (omega arith)
    c.read_part.auto.part c.read_part.ensures
