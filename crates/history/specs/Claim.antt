-- Demands 2 and 3 (specification 9.2 and 9.3). A list of calls, each getting the table that the last handed back, and
-- what is claimed after it: answers, rules with their marks, labels, depths, supports and spoilers are those of the
-- plain book. Assumes nothing.
use Rattle.std.specs.Prelude.{ℕ, ◌≤◌, ◌<◌, ◌≡◌, ◌↔◌, Bool, true, List, [], ◌∷◌, length, get_or}
use Rattle.std.proofs.Math.Option.{none, some}
use Rattle.theory.specs.Lists.{◌∈◌, Lists}
use Rattle.theory.specs.Rules.{Rule, Program, Page, Pages, active, Held}
use Rattle.theory.specs.Models.{AtomSet, valid, Admissible, OnlyModel}
use Rattle.theory.specs.Derivations.{Derivation}
use Rattle.theory.specs.Labels.{Label, out, in_at, Labelled, Shallower, Spoiler, spoiler, Spoils}
use Rattle.theory.specs.Questions.{is_in_label}
use Rattle.theory.specs.Book.{add, remove, replace, mute, Answer, empty}
use Rattle.theory.specs.Limits.{document}
use Rattle.table.specs.declared.Table.{Table}
use Rattle.table.specs.Labels.{label_at}
use Rattle.table.specs.Sound.{Sound}
use Rattle.calls.specs.Answers.{AddAnswer, ChangeAnswer, LabelAnswer, SpoilerAnswer}
use Rattle.calls.specs.Answers.{book_add, book_change, tell_label, tell_page}
use Rattle.calls.specs.Ends.{held, AddEnds, RemoveEnds, ReplaceEnds, MuteEnds, LabelEnds, SpoilerEnds, LoadEnds}
use Rattle.checklist_meaning.specs.Questions.{FileCall}
use Rattle.checklist_meaning.specs.Book.{opening, of_file}
use Rattle.checklist_meaning.specs.Ends.{OpenEnds, FileEnds}
use Rattle.history.specs.Calls.{Call, change, load, checklist, calls_answers, calls_after}

-- A call that meets its contract: on the table t it answers and hands back a table. A load and the opening of a
-- checklist look at no table, so t is given up.
pub data Step (t : Table) : Call → Answer → Table → Type 0 where
  adds : {r : Rule} {x : AddAnswer} {u : Table} → AddEnds t r x u → Step t (change (add r)) (book_add x) u
  removes : {s : ℕ} {x : ChangeAnswer} {u : Table} → RemoveEnds t s x u → Step t (change (remove s)) (book_change x) u
  replaces :
      {s : ℕ} {r : Rule} {x : ChangeAnswer} {u : Table} → ReplaceEnds t s r x u
      → Step t (change (replace s r)) (book_change x) u
  mutes :
      {s : ℕ} {m : Bool} {x : ChangeAnswer} {u : Table} → MuteEnds t s m x u
      → Step t (change (mute s m)) (book_change x) u
  loads : {bytes : List ℕ} {x : ChangeAnswer} {u : Table} → LoadEnds bytes x u → Step t (load bytes) (book_change x) u
  opens :
      {n : ℕ} {x : ChangeAnswer} {u : Table} → OpenEnds n x u → Step t (checklist (opening n)) (book_change x) u
  marks :
      {c : FileCall} {x : ChangeAnswer} {u : Table} → FileEnds t c x u → Step t (checklist (of_file c)) (book_change x) u

-- A list of such calls.
pub data Trace : Table → List Call → List Answer → Table → Type 0 where
  stop : {t : Table} → Trace t [] [] t
  call :
      {t u v : Table} {c : Call} {x : Answer} {cs : List Call} {xs : List Answer} → Step t c x u → Trace u cs xs v
      → Trace t (c ∷ cs) (x ∷ xs) v

-- The book's answers to a list of calls, and its pages after them: rules with their marks.
abbrev pub book_answers : List Call → List Answer
book_answers cs = calls_answers document (empty document) cs

abbrev pub book_after : List Call → Pages
book_after cs = calls_after document (empty document) cs

-- An in atom, as the third demand asks, of the unmuted rules P: its supporting rule is valid with all positive entries
-- in and of smaller depth; some derivation has exactly depth levels and none fewer; depth is at most the number of in
-- atoms, which are listed.
pub record Supported (P : Program) (M : AtomSet) (a depth slot : ℕ) : Type 0 where
  pub rule : Rule
  pub holds : Held P slot rule
  pub heads : rule.head ≡ a
  pub good : valid M rule ≡ true
  pub entries : (x : ℕ) → x ∈ rule.positives → (M x ≡ true) × Shallower P M x a
  pub derived : Derivation P M a depth
  pub fewest : (h : ℕ) → Derivation P M a h → depth ≤ h
  pub in_atoms : List ℕ
  pub listed : Lists in_atoms (λ x. M x ≡ true)
  pub few : depth ≤ length in_atoms

-- Demand 3: after the calls cs, with the answers xs, the table is t.
pub record History (cs : List Call) (xs : List Answer) (t : Table) : Type 0 where
  -- each answer is the book's, and each slot holds what the page of its number holds, with its mark
  pub answered : xs ≡ book_answers cs
  pub slots : held t ≡ book_after cs
  pub sound : Sound t
  -- the labels are those defined for the book's pages, in the one admissible model of their unmuted rules
  pub model : AtomSet
  pub admissible : Admissible (active (book_after cs)) model
  pub alone : (N : AtomSet) → Admissible (active (book_after cs)) N → (a : ℕ) → N a ≡ model a
  pub labels : (a : ℕ) → a < document.atoms → Labelled (book_after cs) model a (label_at t.words a)
  pub label_answer :
      (a : ℕ) → a < document.atoms → (x : LabelAnswer) → LabelEnds t a x
      → (l : Label) × (x ≡ tell_label l) × Labelled (book_after cs) model a l
  -- an in atom shows its support and its least depth
  pub supported :
      (a d s : ℕ) → a < document.atoms → label_at t.words a ≡ in_at d s
      → Supported (active (book_after cs)) model a d s
  -- the spoiler answer of each held slot is the one defined: muted, for a muted rule
  pub spoiler_answer :
      (s : ℕ) (p : Page) → get_or (book_after cs) s none ≡ some p → (x : SpoilerAnswer) → SpoilerEnds t s x
      → x ≡ tell_page model p
  -- and each unmuted rule of an out atom shows the first entry that really spoils it: on its side, at its place
  pub spoiled :
      (a : ℕ) → a < document.atoms → label_at t.words a ≡ out → (s : ℕ) (r : Rule)
      → Held (active (book_after cs)) s r → r.head ≡ a
      → (x : Spoiler) × (spoiler model r ≡ some x) × Spoils model r x

-- Demand 2, of a table handed back: the unmuted rules now held have one admissible model, and an atom is in if and only
-- if it is in that model.
pub record InModel (u : Table) : Type 0 where
  pub model : AtomSet
  pub only : OnlyModel (active (held u)) model
  pub exactly : (a : ℕ) → a < document.atoms → (is_in_label (label_at u.words a) ≡ true) ↔ (model a ≡ true)
