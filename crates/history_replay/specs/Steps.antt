-- Private: what the functions behind `replay` tell each other. No exported contract speaks of it. Assumes nothing.
use Rattle.std.specs.Prelude.{ℕ, ◌≡◌, Option, Some, None, List}
use Rattle.std.proofs.Math.Option.{none, some}
use Rattle.theory.specs.Book.{Answer}
use Rattle.table.specs.declared.Table.{Table}
use Rattle.calls.specs.Answers.{ChangeAnswer}
use Rattle.checklist_meaning.specs.Book.{opening, of_file}
use Rattle.checklist_meaning.specs.Book as list
use Rattle.checklist_meaning.specs.Ends.{OpenEnds, FileEnds}
use Rattle.history_replay.specs.declared.Stepped.{Stepped}
use Rattle.history.specs.Calls.{Call}
use Rattle.history.specs.Claim.{Step}
use Rattle.history_words.specs.Encoding.{placed}
use Rattle.history_replay.specs.Replays.{encode}

-- The call that stands at a place was made: it meets its contract on the table t, and its answer is told as a number.
pub record CallMade (ws files : List ℕ) (at : ℕ) (t : Table) (answer behind : ℕ) (u : Table) : Type 0 where
  pub call : Call
  pub told : Answer
  pub stands : placed ws files at ≡ some (record { call = call; behind = behind })
  pub step : Step t call told u
  pub number : answer ≡ encode told

-- One step from a place: no call stands there, and the table is as it was; or the call was made.
abbrev pub StepOf : List ℕ → List ℕ → ℕ → Table → Option Stepped → Table → Type 0
StepOf ws files at t None u = (placed ws files at ≡ none) × (u ≡ t)
StepOf ws files at t (Some r) u = CallMade ws files at t r.answer r.at u

-- A call of a checklist, as its contract says.
abbrev pub ChecklistEnds : Table → list.Call → ChangeAnswer → Table → Type 0
ChecklistEnds t (opening n) x u = OpenEnds n x u
ChecklistEnds t (of_file c) x u = FileEnds t c x u
