use Rattle.std.proofs.Common.{ap, take}
use mathlib.Core.Bool.{not}
use Rattle.program_io.proofs.Writing.{shows-none}
use Rattle.program_io.proofs.show.Goals as goal

pub returns-then-not-showing : goal.returns-then-not-showing
returns-then-not-showing c =
    shows-none c.args.showing (take c.args.n c.args.bytes.now) _ _ (ap not c.if-not-showing.true) c.requires.2
