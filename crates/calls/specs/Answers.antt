-- What the calls answer, and answers in the words of the theory. Assumes nothing.
use Rattle.std.specs.Prelude.{ℕ, true, false, Result, Ok, Err}
use Rattle.std.proofs.Math.Option.{Option, none, some}
use Rattle.theory.specs.Rules.{Page}
use Rattle.theory.specs.Models.{AtomSet}
use Rattle.theory.specs.Labels.{absent, out, in_at, Side, positive, negative, spoiler}
use Rattle.theory.specs.Labels as theory
use Rattle.theory.specs.Book as book
use Rattle.table.specs.declared.Atom.{Atom}
use Rattle.table.specs.declared.Slot.{Slot}
use Rattle.table.specs.declared.Label.{Label}
use Rattle.table.specs.declared.Label.TheVariants.{Absent, Out, In}
use Rattle.refusals.specs.declared.Refusal.{Refusal}
use Rattle.refusals.specs.Refusals.{number_of}
use Rattle.calls.specs.declared.RuleStatus.{RuleStatus}
use Rattle.calls.specs.declared.RuleStatus.TheVariants as spoilt

-- What a call answers is what was asked for, or the refusal: the slot that an addition took; of a call that changes a
-- table, or hands one back, and has no answer named, that it was accepted; a label; what spoils a rule; how many entries
-- were written; the atom asked about, or the slot.
abbrev pub AddAnswer : Type 0
AddAnswer = Result Slot Refusal

abbrev pub ChangeAnswer : Type 0
ChangeAnswer = Result (Unit {0}) Refusal

abbrev pub LabelAnswer : Type 0
LabelAnswer = Result Label Refusal

abbrev pub SpoilerAnswer : Type 0
SpoilerAnswer = Result RuleStatus Refusal

abbrev pub ListAnswer : Type 0
ListAnswer = Result ℕ Refusal

abbrev pub AskedAtom : Type 0
AskedAtom = Result Atom Refusal

abbrev pub AskedSlot : Type 0
AskedSlot = Result Slot Refusal

-- The plain book's word for an answer.
abbrev pub book_add : AddAnswer → book.Answer
book_add (Ok s) = book.slot s.0
book_add (Err f) = book.refused (number_of f)

abbrev pub book_change : ChangeAnswer → book.Answer
book_change (Ok done) = book.accepted
book_change (Err f) = book.refused (number_of f)

-- The answer that tells a label.
abbrev pub tell_label : theory.Label → LabelAnswer
tell_label absent = Ok Absent
tell_label out = Ok Out
tell_label (in_at d s) = Ok (In d (record { 0 = s }))

-- The answer that tells a rule's spoiler.
abbrev pub tell_entry : Side → ℕ → ℕ → SpoilerAnswer
tell_entry positive i x = Ok (spoilt.Positive i (record { 0 = x }))
tell_entry negative i x = Ok (spoilt.Negative i (record { 0 = x }))

abbrev pub tell_spoiler : Option theory.Spoiler → SpoilerAnswer
tell_spoiler none = Ok spoilt.Valid
tell_spoiler (some s) = tell_entry s.side s.place s.atom

-- The answer that tells of a page in the model M: a muted rule is told as muted, whether or not an entry spoils it.
abbrev pub tell_page : AtomSet → Page → SpoilerAnswer
tell_page M p = elim p.muted [ true ↦ Ok spoilt.Muted | false ↦ tell_spoiler (spoiler M p.rule) ]
