-- A line that meets a sound table makes the calls that it is, and prints what the plain book prints. Assumes nothing.
use Rattle.std.specs.Prelude.{Ok, Err}
use Prim.Native.Nat.{ℕ, ◌≤◌, ◌<◌}
use native.Mathlib.Omega.{arith}
use mathlib.Core.Path.{◌≡◌, refl, sym, ◌∙◌, ap, subst}
use mathlib.Core.Logic.{⊎_elim}
use mathlib.Core.Bool.{true}
use mathlib.Core.List.{List, [], ◌∷◌}
use mathlib.Core.Option.{Option, none, some}
use lib.Dec.{ltb}
use lib.ListN.{length, drop, length-replicate}
use lib.Seq.{take-append_seam}
use Rattle.theory.specs.Rules.{active}
use Rattle.theory.specs.Models.{AtomSet, Admissible, OnlyModel}
use Rattle.theory.specs.Labels.{Label, Labelled}
use Rattle.theory.specs.Explanations.{Reason}
use Rattle.theory.specs.Questions.{asks, first_no, reason_questions, is_in_label}
use Rattle.theory.specs.Limits.{document}
use Rattle.theory.specs.Book.{Answer}
use Rattle.theory.proofs.Lists.{le-or-lt, ltb-lt, unless}
use Rattle.theory.proofs.Questions.{first_no-here, first_no-none}
use Rattle.theory.proofs.Labels.{label-exists, label_in}
use Rattle.theory.proofs.Explanations.{reason-short}
use Rattle.theory.proofs.Slots.{labelled}
use Rattle.table.specs.declared.Table.{Table}
use Rattle.table.specs.Labels.{label_at}
use Rattle.table.specs.Sound.{Sound}
use Rattle.calls.specs.Answers.{AddAnswer, ChangeAnswer, ListAnswer, book_add, book_change}
use Rattle.refusals.specs.Refusals.{number_of}
use Rattle.calls.specs.Ends as contract
use Rattle.calls.specs.Ends.{held, ReasonEnds}
use Rattle.calls.proofs.Determined.{same-model}
use Rattle.history.specs.Calls.{Call}
use Rattle.history.specs.Claim.{adds, removes, replaces, Trace, stop, call}
use Rattle.history.proofs.Sequence.{step_follows, sound-model, sound-below}
use Rattle.sheet_lines.specs.Commands as sheet
use Rattle.sheet_lines.specs.Readings.{Line, is_blank, too_long, no_command, is, reading}
use Rattle.fields.specs.Texts.{bytes}
use Rattle.sheet_printing.specs.Printed.{why_line, refusal_line}
use Rattle.sheet_meaning.specs.Lines as prints
use Rattle.sheet_meaning.specs.Lines.{Prints, lent, tell_add, tell_change, tell_reason}
use Rattle.sheet_meaning.specs.Calls.{line_calls}
use Rattle.sheet_meaning.specs.Seen.{add_line, change_line, ReasonLine, SeesReason, Seen}

-- Any admissible model of a sound table's rules is the one.
only_of : {t : Table} {M : AtomSet} → Sound t → Admissible (active (held t)) M → OnlyModel (active (held t)) M
only_of {t} {M} S A =
    subst (OnlyModel (active (held t))) (same-model t S S.kept.model M S.kept.admissible A)
    (sound-model t S)

-- What the calls' answers print is what the book's answers print.

add-told : (n : ℕ) (x : AddAnswer) → tell_add n x ≡ add_line n (book_add x)
add-told n (Ok s) = refl
add-told n (Err f) = refl

change-told : (word : List ℕ) (n s : ℕ) (x : ChangeAnswer) → tell_change word n s x ≡ change_line word n s (book_change x)
change-told word n s (Ok done) = refl
change-told word n s (Err f) = refl

-- A reason. Question 10 is answered by the number alone, so a number past the limit needs no label.
module _ (t : Table) (S : Sound t) (n a : ℕ) where
  abbrev kept : Label
  kept = label_at t.words a

  seen-with :
      (l : Label) → Labelled (held t) S.kept.model a l → {out : List ℕ}
      → ReasonLine (active (held t)) S.kept.model n a (first_no (reason_questions document a l)) out
      → SeesReason (held t) n a out
  seen-with l L told =
      record { model = S.kept.model; only = sound-model t S; label = l; labelled = L; told = told }

  past : document.atoms ≤ a → (l : Label) → first_no (reason_questions document a l) ≡ some 10
  past over l = first_no-here (asks 10 (ltb a document.atoms)) (asks 12 (is_in_label l) ∷ [])
      (unless (ltb a document.atoms) (λ u. omega (arith, ltb-lt a document.atoms u)))

  refused-seen :
      (k : ℕ) → first_no (reason_questions document a kept) ≡ some k → SeesReason (held t) n a (refusal_line n k)
  refused-seen k e = ⊎_elim
      (λ (over : document.atoms ≤ a). (
      let w = label-exists (held t) S.kept.model S.kept.admissible.founded a in
      seen-with w.0 w.1
      (subst (λ (o : Option ℕ). ReasonLine (active (held t)) S.kept.model n a o (refusal_line n k))
      (sym e ∙ past over kept ∙ sym (past over w.0)) refl)))
      (λ (below : a < document.atoms). seen-with kept (labelled _ _ _ S.kept a)
      (subst (λ (o : Option ℕ). ReasonLine (active (held t)) S.kept.model n a o (refusal_line n k)) (sym e) refl))
      (le-or-lt document.atoms a)

  -- the asked atom is in, where both questions are answered yes
  asked_in : first_no (reason_questions document a kept) ≡ none → S.kept.model a ≡ true
  asked_in e =
      let ten = first_no-none (asks 10 (ltb a document.atoms)) (asks 12 (is_in_label kept) ∷ []) e in
      let twelve = first_no-none (asks 12 (is_in_label kept)) [] ten.1 in
      sym (label_in (held t) S.kept.model S.kept.admissible a kept
      (labelled _ _ _ S.kept a))
      ∙ twelve.0

  moved : (N : AtomSet) (xs : List ℕ) → Admissible (active (held t)) N → Reason (active (held t)) N a xs
      → Reason (active (held t)) S.kept.model a xs
  moved N xs A R =
      subst (λ (X : AtomSet). Reason (active (held t)) X a xs)
      (same-model t S N S.kept.model A S.kept.admissible) R

  given-seen :
      (xs : List ℕ) → first_no (reason_questions document a kept) ≡ none
      → Reason (active (held t)) S.kept.model a xs
      → SeesReason (held t) n a (why_line xs)
  given-seen xs e R =
      let ten = first_no-none (asks 10 (ltb a document.atoms)) (asks 12 (is_in_label kept) ∷ []) e in
      seen-with kept (labelled _ _ _ S.kept a)
      (subst (λ (o : Option ℕ). ReasonLine (active (held t)) S.kept.model n a o (why_line xs)) (sym e)
      (xs, R, refl))

  reason-seen :
      {x : ListAnswer} {buffer : List ℕ} → ReasonEnds t a lent x buffer
      → SeesReason (held t) n a (tell_reason n x buffer)
  reason-seen (contract.unsound f) = absurd (f S)
  reason-seen (contract.refused f T e) = refused-seen (number_of f) e
  reason-seen (contract.short N xs T e A R l) =
      absurd (omega (
        arith,
        l,
        length-replicate {A = ℕ} document.atoms 0,
        reason-short (active (held t)) S.kept.model document.atoms (sound-below t S) a xs (asked_in e)
            (moved N xs A R),
      ))
  reason-seen (contract.accepted N xs T e A R l) =
      subst (λ (ys : List ℕ). SeesReason (held t) n a (why_line ys))
      (sym (take-append_seam xs (drop (length xs) lent))) (given-seen xs e (moved N xs A R))

-- A line that meets a sound table: the calls that it is were made, and it prints what the book prints.
pub record LineDone (t : Table) (n : ℕ) (line : Line) (printed : List ℕ) (u : Table) : Type 0 where
  pub told : List Answer
  pub trace : Trace t (line_calls line) told u
  pub seen : Seen (held t) n line printed

no_call : {t : Table} {n : ℕ} {printed : List ℕ} (l : Line) → line_calls l ≡ [] → Seen (held t) n l printed
    → LineDone t n l printed t
no_call {t} l e f = record { told = []; trace = subst (λ (cs : List Call). Trace t cs [] t) (sym e) stop; seen = f }

pub line-done :
    {t u : Table} {n : ℕ} {line printed : List ℕ} → Sound t → Prints t n line printed u
    → LineDone t n (reading line) printed u
line-done {t} {u} {n} {line} {printed} S p = go p
  where
    on :
        {bs : List ℕ} {v : Table} (l : Line) → reading line ≡ l → LineDone t n l bs v
        → LineDone t n (reading line) bs v
    on {bs} {v} l e d = subst (λ (k : Line). LineDone t n k bs v) (sym e) d

    told : (word : List ℕ) (slot : ℕ) (x : ChangeAnswer) {y : Answer} → book_change x ≡ y
        → tell_change word n slot x ≡ change_line word n slot y
    told word slot x e = change-told word n slot x ∙ ap (change_line word n slot) e

    go : {bs : List ℕ} {v : Table} → Prints t n line bs v → LineDone t n (reading line) bs v
    go (prints.blank e) = on is_blank e (no_call is_blank refl refl)
    go (prints.long e) = on too_long e (no_call too_long refl refl)
    go (prints.unread e) = on no_command e (no_call no_command refl refl)
    go (prints.add head ps ns x v e ends) =
        on (is (sheet.add head ps ns)) e (record {
          told = book_add x ∷ [];
          trace = call (adds ends) stop;
          seen = add-told n x ∙ ap (add_line n) (step_follows S (adds ends)).said;
        })
    go (prints.remove slot x v e ends) =
        on (is (sheet.remove slot)) e (record {
          told = book_change x ∷ [];
          trace = call (removes ends) stop;
          seen = told (bytes "removed") slot x (step_follows S (removes ends)).said;
        })
    go (prints.replace slot head ps ns x v e ends) =
        on (is (sheet.replace slot head ps ns)) e (record {
          told = book_change x ∷ [];
          trace = call (replaces ends) stop;
          seen = told (bytes "replaced") slot x (step_follows S (replaces ends)).said;
        })
    go (prints.why atom x buffer e ends) =
        on (is (sheet.why atom)) e (no_call (is (sheet.why atom)) refl (reason-seen t S n atom ends))
    go (prints.unsound e f) = absurd (f S)
    go (prints.labels N label e T A L) =
        on (is sheet.labels) e (no_call (is sheet.labels) refl
        (record { model = N; only = only_of S A; label = label; labelled = L; told = refl }))
