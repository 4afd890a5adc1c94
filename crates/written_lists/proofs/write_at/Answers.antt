-- `written_lists::write_at` meets its contract. Assumes nothing.
use mathlib.Core.Path.{sym}
use lib.Seq.{set_out}
use borrow.Author.Rules.{rules}
use Rattle.written_lists.proofs.write_at.Goals as goal

pub returns-else-n-buffer : goal.returns-else-n-buffer
returns-else-n-buffer c = sym (set_out _ _ _ (search rules))
