-- Demand 3 (specification 9.3) holds after any list of calls from the empty table, each meeting its contract; and
-- demand 2 after each. Assumes nothing.
use Prim.Native.Nat.{ℕ, ◌<◌}
use mathlib.Core.Path.{◌≡◌, refl, sym, ◌∙◌, ap, ap₂, subst}
use mathlib.Core.Logic.{⊎_elim}
use mathlib.Core.Bool.{true, false}
use mathlib.Core.List.{List, [], ◌∷◌, map}
use mathlib.Core.Option.{Option, none, some}
use lib.ListN.{get_or}
use Rattle.theory.specs.Rules.{Rule, Page, Pages, all, active, new_page, Held}
use Rattle.theory.specs.Models.{AtomSet, valid, Admissible, OnlyModel}
use Rattle.theory.specs.Dependencies.{NegativeCycle}
use Rattle.theory.specs.Labels.{Label, out, in_at, Labelled, is_out, is_in}
use Rattle.theory.specs.Labels.{Spoiler, spoiler, Spoils}
use Rattle.theory.specs.Questions.{Question, first_no, put_in}
use Rattle.theory.specs.Book as book
use Rattle.theory.specs.Book.{add, remove, replace, mute, Answer, refused, accepted, empty, answer, after, answers}
use Rattle.theory.specs.Book.{after_all, refusal, granted, changed}
use Rattle.theory.specs.Limits.{document}
use Rattle.theory.proofs.Book.{slot_answer}
use Rattle.theory.proofs.Lists.{test, clash, lt-ltb}
use Rattle.theory.proofs.Rules.{valid-positive}
use Rattle.theory.proofs.Questions.{passed-bounded}
use Rattle.theory.proofs.Pages.{all-length, held-page}
use Rattle.theory.proofs.Depths.{depth-count}
use Rattle.theory.proofs.Labels.{in-occurs-held, spoils, spoiler-exists}
use Rattle.theory.proofs.Explanations.{list-below}
use Rattle.theory.proofs.Slots.{labelled}
use Rattle.table.specs.declared.Table.{Table}
use Rattle.table.specs.Labels.{label_at}
use Rattle.table.specs.Clean.{empty_table}
use Rattle.table.specs.Sound.{Sound}
use Rattle.table.specs.Rules.{book_of}
use Rattle.table.specs.Words.{words}
use Rattle.table.proofs.Words.{zero-rules}
use Rattle.table.proofs.Empty.{empty-sound, free-book}
use Rattle.file_blocks.specs.Questions.{file_questions, pages_of}
use Rattle.file_blocks.specs.Book.{load_answer, load_pages}
use Rattle.calls.specs.Answers.{ChangeAnswer, LabelAnswer, SpoilerAnswer, book_change, tell_label, tell_page}
use Rattle.calls.specs.Ends as contract
use Rattle.calls.specs.Ends.{held, ChangeEnds, LabelEnds, SpoilerEnds}
use Rattle.calls.proofs.Asking.{atom-yes, slot-asked}
use Rattle.theory.proofs.Labels.{one-model}
use Rattle.calls.proofs.Determined.{label-determined, spoiler-determined}
use Rattle.checklist_meaning.specs.Book.{opening, of_file, checklist_answer, checklist_after}
use Rattle.checklist_meaning.specs.Book as list-book
use Rattle.checklist_meaning.specs.Ends as list-contract
use Rattle.checklist_meaning.proofs.Questions.{no-list}
use Rattle.history.specs.Calls.{Call, change, call_answer, call_after, calls_answers, calls_after}
use Rattle.history.specs.Claim.{Step, adds, removes, replaces, mutes, loads, opens, marks, Trace, stop, call}
use Rattle.history.specs.Claim.{book_answers, book_after, Supported, History}

-- The unmuted rules of a sound table have one admissible model, and its atoms are below the limit.

pub sound-model : (t : Table) (S : Sound t) → OnlyModel (active (held t)) S.kept.model
sound-model t S = record {
  model = S.kept.admissible;
  alone = λ N A. one-model (held t) S.rules.acyclic N S.kept.model A S.kept.admissible;
}

pub sound-below : (t : Table) (S : Sound t) (x : ℕ) → S.kept.model x ≡ true → x < document.atoms
sound-below t S x u =
    let w = in-occurs-held (held t) S.kept.model S.kept.admissible.founded x u in
    passed-bounded document (all (held t)) S.rules.passes w.slot w.rule w.held x w.there

-- What a call on a sound table answers and leaves is what the book does, and the table stays sound.
pub record Follows (B : Pages) (c : Call) (x : Answer) (u : Table) : Type 0 where
  pub said : x ≡ call_answer document B c
  pub holds : held u ≡ call_after document B c
  pub still : Sound u

answer-no : (B : Pages) (c : book.Call) (k : ℕ) → refusal document B c ≡ some k → answer document B c ≡ refused k
unfolding answer
answer-no B c k e = rw (e, answer)

answer-yes : (B : Pages) (c : book.Call) → refusal document B c ≡ none → answer document B c ≡ granted document B c
unfolding answer
answer-yes B c e = rw (e, answer)

after-no : (B : Pages) (c : book.Call) (k : ℕ) → refusal document B c ≡ some k → after document B c ≡ B
unfolding after
after-no B c k e = rw (e, after)

after-yes : (B : Pages) (c : book.Call) → refusal document B c ≡ none → after document B c ≡ changed document B c
unfolding after
after-yes B c e = rw (e, after)

-- The pages of the empty table are the empty book.
pub empty-held : held empty_table ≡ empty document
empty-held = ap book_of (zero-rules words) ∙ free-book document.slots

-- The same of a load, which asks its questions of the bytes alone.

load-answer-no :
    (bytes : List ℕ) (k : ℕ) → first_no (file_questions document bytes) ≡ some k
    → load_answer document bytes ≡ refused k
unfolding load_answer
load-answer-no bytes k e = rw (e, load_answer)

load-answer-yes :
    (bytes : List ℕ) → first_no (file_questions document bytes) ≡ none → load_answer document bytes ≡ accepted
unfolding load_answer
load-answer-yes bytes e = rw (e, load_answer)

load-pages-no :
    (bytes : List ℕ) (k : ℕ) → first_no (file_questions document bytes) ≡ some k
    → load_pages document bytes ≡ empty document
unfolding load_pages
load-pages-no bytes k e = rw (e, load_pages)

load-pages-yes :
    (bytes : List ℕ) → first_no (file_questions document bytes) ≡ none
    → load_pages document bytes ≡ pages_of document bytes
unfolding load_pages
load-pages-yes bytes e = rw (e, load_pages)

-- The same of a checklist's call.

checklist-answer-no :
    (B : Pages) (c : list-book.Call) (k : ℕ) → list-book.refusal document B c ≡ some k
    → checklist_answer document B c ≡ refused k
unfolding checklist_answer
checklist-answer-no B c k e = rw (e, checklist_answer)

checklist-answer-yes :
    (B : Pages) (c : list-book.Call) → list-book.refusal document B c ≡ none
    → checklist_answer document B c ≡ accepted
unfolding checklist_answer
checklist-answer-yes B c e = rw (e, checklist_answer)

checklist-after-no :
    (B : Pages) (c : list-book.Call) (k : ℕ) → list-book.refusal document B c ≡ some k
    → checklist_after document B c ≡ list-book.left document B c
unfolding checklist_after
checklist-after-no B c k e = rw (e, checklist_after)

checklist-after-yes :
    (B : Pages) (c : list-book.Call) → list-book.refusal document B c ≡ none
    → checklist_after document B c ≡ list-book.granted document B c
unfolding checklist_after
checklist-after-yes B c e = rw (e, checklist_after)

-- A call that changes a table and is answered accepted: a removal, a replacement, a muting.
change-follows :
    {t u : Table} {x : ChangeAnswer} (c : book.Call) {qs : List Question} → refusal document (held t) c ≡ first_no qs
    → granted document (held t) c ≡ accepted → Sound t → ChangeEnds qs (changed document (held t) c) t x u
    → Follows (held t) (change c) (book_change x) u
change-follows c r g S (contract.unsound n) = absurd (n S)
change-follows {t} c r g S (contract.refused f T e) = record {
  said = sym (answer-no (held t) c _ (r ∙ e));
  holds = sym (after-no (held t) c _ (r ∙ e));
  still = S;
}
change-follows {t} c r g S (contract.accepted u T e Z h U) = record {
  said = sym (answer-yes (held t) c (r ∙ e) ∙ g);
  holds = h ∙ sym (after-yes (held t) c (r ∙ e));
  still = U;
}

pub step_follows : {t u : Table} {c : Call} {x : Answer} → Sound t → Step t c x u → Follows (held t) c x u
step_follows {t} S (adds (contract.unsound n)) = absurd (n S)
step_follows {t} S (adds {r} (contract.refused f T e)) = record {
  said = sym (answer-no (held t) (add r) _ e);
  holds = sym (after-no (held t) (add r) _ e);
  still = S;
}
step_follows {t} S (adds {r} (contract.accepted s u T e l Z h U)) = record {
  said = sym (answer-yes (held t) (add r) e ∙ ap slot_answer l);
  holds = h ∙ sym (after-yes (held t) (add r) e ∙ ap (λ (o : Option ℕ). put_in (held t) o (new_page r)) l);
  still = U;
}
step_follows S (removes {s} E) = change-follows (remove s) refl refl S E
step_follows S (replaces {s} {r} E) = change-follows (replace s r) refl refl S E
step_follows S (mutes {s} {m} E) = change-follows (mute s m) refl refl S E
step_follows {t} S (loads {bytes} (contract.refused f e)) = record {
  said = sym (load-answer-no bytes _ e);
  holds = empty-held ∙ sym (load-pages-no bytes _ e);
  still = empty-sound;
}
step_follows {t} S (loads {bytes} (contract.accepted u e Z h U)) = record {
  said = sym (load-answer-yes bytes e);
  holds = h ∙ sym (load-pages-yes bytes e);
  still = U;
}
step_follows {t} S (opens {n} (list-contract.refused f e)) = record {
  said = sym (checklist-answer-no (held t) (opening n) _ e);
  holds = empty-held ∙ sym (checklist-after-no (held t) (opening n) _ e);
  still = empty-sound;
}
step_follows {t} S (opens {n} (list-contract.accepted u e Z h U)) = record {
  said = sym (checklist-answer-yes (held t) (opening n) e);
  holds = h ∙ sym (checklist-after-yes (held t) (opening n) e);
  still = U;
}
step_follows {t} S (marks {c} (list-contract.unsound n)) =
    let e = no-list (held t) c (n S) in
    record {
      said = sym (checklist-answer-no (held t) (of_file c) 15 e);
      holds = sym (checklist-after-no (held t) (of_file c) 15 e);
      still = S;
    }
step_follows {t} S (marks {c} (list-contract.refused f T e)) = record {
  said = sym (checklist-answer-no (held t) (of_file c) _ e);
  holds = sym (checklist-after-no (held t) (of_file c) _ e);
  still = S;
}
step_follows {t} S (marks {c} (list-contract.accepted u T e Z h U)) = record {
  said = sym (checklist-answer-yes (held t) (of_file c) e);
  holds = h ∙ sym (checklist-after-yes (held t) (of_file c) e);
  still = U;
}

-- The same of a list of calls, by induction on the list.
pub record Agrees (B : Pages) (cs : List Call) (xs : List Answer) (v : Table) : Type 0 where
  pub told : xs ≡ calls_answers document B cs
  pub kept : held v ≡ calls_after document B cs
  pub sound : Sound v

pub trace-agrees :
    {t v : Table} {cs : List Call} {xs : List Answer} → Sound t → Trace t cs xs v → Agrees (held t) cs xs v
unfolding calls_answers calls_after
trace-agrees S stop = record { told = refl; kept = refl; sound = S }
trace-agrees S (call {cs = cs} step rest) =
    let w = step_follows S step in
    let z = trace-agrees w.still rest in
    record {
      told = ap₂ ◌∷◌ w.said (z.told ∙ ap (λ (B : Pages). calls_answers document B cs) w.holds);
      kept = z.kept ∙ ap (λ (B : Pages). calls_after document B cs) w.holds;
      sound = z.sound;
    }

-- An in atom of a sound table shows what the third demand asks.
in-supported :
    (B : Pages) (M : AtomSet) → Admissible (active B) M → ((x : ℕ) → M x ≡ true → x < document.atoms) → (a d s : ℕ)
    → Labelled B M a (in_at d s) → Supported (active B) M a d s
in-supported B M A low a d s (is_in t D S) =
    let w = S.supports in
    let xs = list-below M document.atoms low in
    record {
      rule = w.rule;
      holds = w.held;
      heads = w.heads;
      good = w.good;
      entries = λ x m. (valid-positive M w.rule w.good x m, w.smaller x m);
      derived = D.reached;
      fewest = D.least;
      in_atoms = xs.0;
      listed = xs.1;
      few = depth-count (active B) M A.founded xs.0 (λ x i. (xs.1.exactly x).1 i) a d t D;
    }

-- An unmuted rule of an out atom has a spoiler, which really spoils it, and before which no entry does.
out-spoiled :
    (B : Pages) (M : AtomSet) → Admissible (active B) M → (a s : ℕ) (r : Rule) → Labelled B M a out
    → Held (active B) s r → r.head ≡ a → (x : Spoiler) × (spoiler M r ≡ some x) × Spoils M r x
out-spoiled B M A a s r (is_out o n) h e = ⊎_elim
    (λ (t : valid M r ≡ true). absurd (clash (ap M (sym e) ∙ A.closed s r h t) n))
    (λ (t : valid M r ≡ false). (let w = spoiler-exists M r t in (w.0, w.1, spoils M r w.0 w.1)))
    (test (valid M r))

-- What holds of any sound table, in the words of the claim.
module _ (cs : List Call) (xs : List Answer) (t : Table) (e : held t ≡ book_after cs) (S : Sound t) where
  M : AtomSet
  M = S.kept.model

  model : Admissible (active (book_after cs)) M
  unfolding M
  model = subst (λ (B : Pages). Admissible (active B) S.kept.model) e S.kept.admissible

  low : (x : ℕ) → M x ≡ true → x < document.atoms
  unfolding M
  low = sound-below t S

  kept : (a : ℕ) → a < document.atoms → Labelled (book_after cs) M a (label_at t.words a)
  unfolding M
  kept a l = subst (λ (B : Pages). Labelled B S.kept.model a (label_at t.words a)) e
      (labelled _ _ _ S.kept a)

  answered-label :
      (a : ℕ) → a < document.atoms → (x : LabelAnswer) → LabelEnds t a x
      → (l : Label) × (x ≡ tell_label l) × Labelled (book_after cs) M a l
  unfolding M
  answered-label a l x E = (
    label_at t.words a,
    label-determined t a x _ E
        (contract.accepted S.kept.model (label_at t.words a) S
        (atom-yes a true (sym (lt-ltb a document.atoms l)) refl) S.kept.admissible
        (labelled _ _ _ S.kept a)),
    kept a l,
  )

  answered-spoiler :
      (s : ℕ) (p : Page) → get_or (book_after cs) s none ≡ some p → (x : SpoilerAnswer) → SpoilerEnds t s x
      → x ≡ tell_page M p
  unfolding M
  answered-spoiler s p h x E =
      let i = ap (λ (B : Pages). get_or B s none) e ∙ h in
      let asked = slot-asked (all (held t)) s p.rule (all-length (held t) ∙ S.rules.slots)
      (held-page (held t) s p i) in
      spoiler-determined t s x _ E (contract.accepted S.kept.model p S asked i S.kept.admissible)

  claim : xs ≡ book_answers cs → History cs xs t
  claim told = record {
    answered = told;
    slots = e;
    sound = S;
    model = M;
    admissible = model;
    alone = λ N A a. one-model (book_after cs) (subst (λ (B : Pages). NegativeCycle (all B) → ⊥) e S.rules.acyclic)
        N M A model a;
    labels = kept;
    label_answer = answered-label;
    supported = λ a d s l q. in-supported (book_after cs) M model low a d s
        (subst (Labelled (book_after cs) M a) q (kept a l));
    spoiler_answer = answered-spoiler;
    spoiled = λ a l q s r h i. out-spoiled (book_after cs) M model a s r
        (subst (Labelled (book_after cs) M a) q (kept a l)) h i;
  }

-- Demand 3. By its contract each call on a sound table answers and leaves what the book does, and leaves a sound table
-- (`step_follows`); so by induction does a list of calls from the empty table, which is sound (`trace-agrees`). What
-- the claim says of labels, supports and spoilers holds of any sound table whose slots hold the book's pages (`claim`),
-- for soundness says that what the slots keep is as defined, and the labels are read off it.
pub history : (cs : List Call) (xs : List Answer) (t : Table) → Trace empty_table cs xs t → History cs xs t
history cs xs t T =
    let w = trace-agrees empty-sound T in
    claim cs xs t (w.kept ∙ ap (λ (B : Pages). calls_after document B cs) empty-held) w.sound
    (w.told ∙ ap (λ (B : Pages). calls_answers document B cs) empty-held)

-- A list of additions, removals, replacements and mutings alone is answered, and leaves pages, as theory's book says.

pub changes-answered :
    (B : Pages) (cs : List book.Call) → calls_answers document B (map change cs) ≡ answers document B cs
unfolding calls_answers answers
changes-answered B [] = refl
changes-answered B (c ∷ cs) = ap (λ (xs : List Answer). answer document B c ∷ xs) (changes-answered (after document B c) cs)

pub changes-after :
    (B : Pages) (cs : List book.Call) → calls_after document B (map change cs) ≡ after_all document B cs
unfolding calls_after after_all
changes-after B [] = refl
changes-after B (c ∷ cs) = changes-after (after document B c) cs
