-- Private: what the functions behind `open` tell each other. No exported contract speaks of it. Assumes nothing.
use Rattle.std.specs.Prelude.{ℕ, ◌≡◌}
use Rattle.std.proofs.Math.Option.{some}
use Rattle.theory.specs.Rules.{new_page}
use Rattle.theory.specs.Limits.{document}
use Rattle.table.specs.declared.Rule.{Rule}
use Rattle.table.specs.declared.Table.{Table}
use Rattle.table.specs.Rules.{page_of}
use Rattle.table.specs.Clean.{WellFormed}
use Rattle.table.specs.Sound.{Sound}
use Rattle.calls.specs.Ends.{held, Sized}
use Rattle.checklist_frame.specs.Frame.{frame}
use Rattle.checklist_meaning.specs.Book.{opened}

-- A slot that holds the frame's rule of slot i, unmuted, and that a sound table can have.
pub record FrameSlot (i : ℕ) (r : Rule) : Type 0 where
  pub page : page_of r ≡ some (new_page (frame i))
  pub well : WellFormed r

-- The table of a checklist of n files just opened.
pub record Framed (n : ℕ) (u : Table) : Type 0 where
  pub sized : Sized u
  pub holds : held u ≡ opened document n
  pub sound : Sound u
