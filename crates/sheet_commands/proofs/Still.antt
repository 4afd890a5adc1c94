-- A call that changes a table hands back a sound one for a sound one. Assumes nothing.
use mathlib.Core.List.{List}
use Rattle.theory.specs.Rules.{Pages}
use Rattle.theory.specs.Rules as theory
use Rattle.theory.specs.Questions.{Question}
use Rattle.table.specs.declared.Table.{Table}
use Rattle.table.specs.Sound.{Sound}
use Rattle.calls.specs.Answers.{AddAnswer, ChangeAnswer}
use Rattle.calls.specs.Ends.{AddEnds, ChangeEnds}
use Rattle.calls.specs.Ends as contract

pub add-still : (t u : Table) (r : theory.Rule) (x : AddAnswer) → Sound t → AddEnds t r x u → Sound u
add-still t u r x S (contract.unsound n) = S
add-still t u r x S (contract.refused f T e) = S
add-still t u r x S (contract.accepted s v T e l Z h U) = U

pub change-still :
    (questions : List Question) (after : Pages) (t u : Table) (x : ChangeAnswer) → Sound t
    → ChangeEnds questions after t x u → Sound u
change-still questions after t u x S (contract.unsound n) = S
change-still questions after t u x S (contract.refused f T e) = S
change-still questions after t u x S (contract.accepted v T e Z h U) = U
