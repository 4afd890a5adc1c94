use Rattle.std.proofs.Common.{◌≤◌, length, arith}
use Rattle.program_io.proofs.Reading.{got-inside, part-given}
use Rattle.program_io.proofs.read_part.Goals as goal

pub returns : goal.returns
returns c =
    let inside : c.unwrap_or-n.result ≤ length c.read.new.buf =
    omega (arith, c.unwrap_or-n.ensures, got-inside c.read.result c.read.new.buf c.read.ensures.bound) in
    part-given c.read.new.buf c.unwrap_or-n.result inside c.requires.2
