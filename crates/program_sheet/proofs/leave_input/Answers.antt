-- `program_sheet::leave_input` meets its contract. Assumes nothing.
use Rattle.sheet_feed.proofs.Start.{start-sound}
use Rattle.program_sheet.proofs.leave_input.Goals as goal

pub answer_from-requires-clause-sound : goal.answer_from-requires-clause-sound
answer_from-requires-clause-sound c = start-sound _ c.start.ensures
