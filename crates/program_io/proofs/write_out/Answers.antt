use Rattle.std.proofs.Common.{refl}
use Rattle.program_io.proofs.Writing.{writes-all, writes-failed}
use Rattle.program_io.proofs.write_out.Goals as goal

pub returns-then-is_ok : goal.returns-then-is_ok
returns-then-is_ok c = writes-all _ _ _ c.requires.1

pub returns : goal.returns
returns c = writes-failed _ _ _ refl
