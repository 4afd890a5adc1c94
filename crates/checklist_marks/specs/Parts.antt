-- Private: what the functions behind the calls on a file tell each other. No exported contract speaks of it. Assumes
-- nothing.
use Rattle.table.specs.declared.Label.TheVariants.{Out, In, Absent}
use Rattle.std.specs.Prelude.{ℕ, ◌≡◌, true, false, Ok, Err}
use Rattle.std.proofs.Math.Option.{none, some}
use Rattle.table.specs.declared.Atom.{Atom}
use Rattle.table.specs.declared.Slot.{Slot}
use Rattle.table.specs.declared.Table.{Table}
use Rattle.table.specs.Sound.{Sound}
use Rattle.refusals.specs.declared.Refusal.{Refusal}
use Rattle.refusals.specs.declared.Refusal.TheVariants.{TableUnsound, FileNotListed, MarkUnchanged}
use Rattle.refusals.specs.Refusals.{number_of}
use Rattle.calls.specs.Answers.{ChangeAnswer, AskedAtom}
use Rattle.calls.specs.Ends.{held, AddEnds, RemoveEnds, LabelEnds}
use Rattle.checklist_frame.specs.declared.Mark.{Mark}
use Rattle.checklist_frame.specs.Frame.{fact, on_list, files_of}
use Rattle.checklist_frame.specs.Parts.{mark_atom}

-- A file that passes is on the list of a table's rules, and the atom is that of its mark; whether the table is sound is
-- not asked of it yet.
pub data FileAsked (t : Table) (i : ℕ) (m : Mark) : AskedAtom → Type 0 where
  unsound : (Sound t → files_of (held t) ≡ none) → FileAsked t i m (Err TableUnsound)
  off_list :
      (n : ℕ) → Sound t → files_of (held t) ≡ some n → on_list (some n) i ≡ false
      → FileAsked t i m (Err FileNotListed)
  passed :
      (n : ℕ) (a : Atom) → files_of (held t) ≡ some n → on_list (some n) i ≡ true → a.0 ≡ mark_atom m i
      → FileAsked t i m (Ok a)

-- A mark's fact was added: it was accepted, or refused, where 5 is told as 22.
pub data FactAdded (t : Table) (a : ℕ) : ChangeAnswer → Table → Type 0 where
  taken : {s : Slot} {u : Table} → AddEnds t (fact a) (Ok s) u → FactAdded t a (Ok tt) u
  stands :
      {f : Refusal} {u : Table} → AddEnds t (fact a) (Err f) u → number_of f ≡ 5
      → FactAdded t a (Err MarkUnchanged) u
  other :
      {f : Refusal} {u : Table} → AddEnds t (fact a) (Err f) u → (number_of f ≡ 5 → ⊥)
      → FactAdded t a (Err f) u

-- A mark's fact was removed from the slot that supports its atom; an atom that is not in has none.
pub data FactRemoved (t : Table) (a : ℕ) : ChangeAnswer → Table → Type 0 where
  removed :
      {d : ℕ} {s : Slot} {x : ChangeAnswer} {u : Table} → LabelEnds t a (Ok (In d s)) → RemoveEnds t s.0 x u
      → FactRemoved t a x u
  out : LabelEnds t a (Ok Out) → FactRemoved t a (Err MarkUnchanged) t
  absent : LabelEnds t a (Ok Absent) → FactRemoved t a (Err MarkUnchanged) t
  refused : {f : Refusal} → LabelEnds t a (Err f) → FactRemoved t a (Err f) t
