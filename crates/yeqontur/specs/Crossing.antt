-- What crosses the boundary to C: the contract of the call holds of the answer whose numbers cross. Assumes nothing.
use Rattle.std.specs.Prelude.{ℕ, ◌≡◌, List}
use Rattle.theory.specs.Rules as theory
use Rattle.table.specs.declared.Table.{Table}
use Rattle.calls.specs.Answers.{AddAnswer}
use Rattle.calls.specs.Answers.{ChangeAnswer}
use Rattle.calls.specs.Answers.{LabelAnswer}
use Rattle.calls.specs.Answers.{SpoilerAnswer}
use Rattle.calls.specs.Answers.{ListAnswer}
use Rattle.calls.specs.Ends.{AddEnds, RemoveEnds, LabelEnds, SpoilerEnds}
use Rattle.queries.specs.RuleTold.{RuleAnswer, RuleEnds}
use Rattle.checklist_meaning.specs.Ends.{CompleteAnswer}
use Rattle.checklist_meaning.specs.Ends.{CompleteEnds}
use Rattle.c_answers.specs.declared.Change.{Change}
use Rattle.c_answers.specs.declared.AtomLabel.{AtomLabel}
use Rattle.c_answers.specs.declared.SlotRule.{SlotRule}
use Rattle.c_answers.specs.declared.RuleSpoiler.{RuleSpoiler}
use Rattle.c_answers.specs.declared.Written.{Written}
use Rattle.c_answers.specs.declared.Accepted.{Accepted}
use Rattle.c_answers.specs.declared.Completeness.{Completeness}
use Rattle.c_answers.specs.Numbers.{crossed_add, crossed_remove, crossed_label, crossed_spoiler, crossed_list}
use Rattle.c_answers.specs.Numbers.{crossed_change, crossed_complete, crossed_rule}

-- What crosses is the answer of a call that meets its contract.

pub record AddCrosses (t : Table) (r : theory.Rule) (c : Change) : Type 0 where
  pub answer : AddAnswer
  pub after : Table
  pub ends : AddEnds t r answer after
  pub crosses : c ≡ crossed_add answer after

pub record RemoveCrosses (t : Table) (s : ℕ) (c : Change) : Type 0 where
  pub answer : ChangeAnswer
  pub after : Table
  pub ends : RemoveEnds t s answer after
  pub crosses : c ≡ crossed_remove s answer after

pub record LabelCrosses (t : Table) (a : ℕ) (c : AtomLabel) : Type 0 where
  pub answer : LabelAnswer
  pub ends : LabelEnds t a answer
  pub crosses : c ≡ crossed_label answer

pub record RuleCrosses (t : Table) (s : ℕ) (c : SlotRule) : Type 0 where
  pub answer : RuleAnswer
  pub ends : RuleEnds t s answer
  pub crosses : c ≡ crossed_rule answer

pub record SpoilerCrosses (t : Table) (s : ℕ) (c : RuleSpoiler) : Type 0 where
  pub answer : SpoilerAnswer
  pub ends : SpoilerEnds t s answer
  pub crosses : c ≡ crossed_spoiler answer

-- `Ends` is the call's contract of answer and buffer.
pub record ListCrosses (Ends : ListAnswer → List ℕ → Type 0) (after : List ℕ) (c : Written) : Type 0 where
  pub answer : ListAnswer
  pub ends : Ends answer after
  pub crosses : c ≡ crossed_list answer

-- `Ends` is the call's contract of answer and table.
pub record ChangeCrosses (Ends : ChangeAnswer → Table → Type 0) (c : Accepted) : Type 0 where
  pub answer : ChangeAnswer
  pub after : Table
  pub ends : Ends answer after
  pub crosses : c ≡ crossed_change answer after

pub record CompleteCrosses (t : Table) (c : Completeness) : Type 0 where
  pub answer : CompleteAnswer
  pub ends : CompleteEnds t answer
  pub crosses : c ≡ crossed_complete answer
