-- `checklist::missing` meets its contract. Assumes nothing.
use mathlib.Core.Path.{sym, ap}
use mathlib.Core.List.{[]}
use Rattle.theory.specs.Questions.{asks, is_some}
use Rattle.theory.proofs.Lists.{clash}
use Rattle.theory.proofs.Questions.{first_no-here}
use Rattle.table.specs.Words.{table_of}
use Rattle.refusals.specs.declared.Refusal.TheVariants.{TableUnsound}
use Rattle.calls.specs.Ends as contract
use Rattle.checklist_frame.proofs.Frames.{checklist-of}
use Rattle.checklist.proofs.Asking.{missing-ends}
use Rattle.checklist.proofs.missing.Goals as goal

pub returns-then-not-is_sound : goal.returns-then-not-is_sound
returns-then-not-is_sound c =
    contract.unsound (λ S. clash (c.is_sound.ensures.1 S) c.if-not-is_sound.true)

pub returns-in_default : goal.returns-in_default
returns-in_default c =
    contract.refused TableUnsound (c.is_sound.ensures.0 c.if-not-is_sound.false)
    (first_no-here (asks 15 _) [] (ap is_some (sym c.in_default.ensures)))

pub lacking-lacks-requires : goal.lacking-lacks-requires
lacking-lacks-requires c = (checklist-of _ _ (sym c.in-Some.ensures)).high

pub returns : goal.returns
returns c =
    missing-ends (table_of c.args.table.now) (c.is_sound.ensures.0 c.if-not-is_sound.false) _ (sym c.in-Some.ensures)
    c.arrays_of-kept.result c.arrays_of-kept.ensures _ c.lacking-lacks.ensures c.write_marked.ensures
