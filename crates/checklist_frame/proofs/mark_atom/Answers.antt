-- `checklist_frame::mark_atom` gives the atom of a mark. Assumes nothing.
use mathlib.Core.Path.{sym, ap}
use Rattle.checklist_frame.specs.declared.Mark.{Mark}
use Rattle.checklist_frame.specs.Parts.{mark_atom}
use Rattle.checklist_frame.proofs.mark_atom.Goals as goal

pub returns-in-Sent : goal.returns-in-Sent
returns-in-Sent c = sym (ap (λ (m : Mark). mark_atom m c.args.i) c.in-Sent.is)

pub returns-in-Skipped : goal.returns-in-Skipped
returns-in-Skipped c = sym (ap (λ (m : Mark). mark_atom m c.args.i) c.in-Skipped.is)
