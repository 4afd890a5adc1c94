-- The plain book prints one list of bytes of a sheet. Assumes nothing.
use Prim.Native.Nat.{ℕ}
use mathlib.Core.Path.{◌≡◌, refl, sym, ◌∙◌, ap, ap₂, subst, fun_ext}
use mathlib.Core.List.{List, ◌++◌}
use mathlib.Core.Option.{Option, none, some}
use Rattle.theory.specs.Rules.{Program, Pages, active}
use Rattle.theory.specs.Models.{AtomSet, OnlyModel}
use Rattle.theory.specs.Labels.{Label, Labelled}
use Rattle.theory.specs.Questions.{first_no, reason_questions}
use Rattle.theory.specs.Limits.{document}
use Rattle.theory.proofs.Labels.{label-unique}
use Rattle.theory.proofs.Explanations.{reason-unique}
use Rattle.sheet_lines.specs.Commands as sheet
use Rattle.sheet_lines.specs.Readings.{Line, is_blank, too_long, no_command, is, reading}
use Rattle.sheet_printing.specs.Printed.{why_line}
use Rattle.sheet_meaning.specs.Seen.{ReasonLine, SeesReason, SeesLabels, Seen}
use Rattle.sheet_meaning.specs.Seen.{LinesPrint, no_line, one_line, BookPrints}
use Rattle.sheet_meaning.proofs.Unique.{labels-same}

-- Two sets that are the one admissible model are the same.
one-model : {P : Program} {M N : AtomSet} → OnlyModel P M → OnlyModel P N → M ≡ N
one-model {P} {M} {N} m n = fun_ext (n.alone M m.model)

reason-line-unique :
    (P : Program) (M : AtomSet) (n a : ℕ) (o : Option ℕ) (out more : List ℕ) → ReasonLine P M n a o out
    → ReasonLine P M n a o more → out ≡ more
reason-line-unique P M n a (some k) out more e g = e ∙ sym g
reason-line-unique P M n a none out more (xs, R, e) (ys, Q, g) =
    e ∙ ap why_line (reason-unique P M a xs ys R Q) ∙ sym g

reason-unique-line :
    (B : Pages) (n a : ℕ) (out more : List ℕ) → SeesReason B n a out → SeesReason B n a more → out ≡ more
reason-unique-line B n a out more A C =
    let e = one-model A.only C.only in
    let moved : Labelled B C.model a A.label =
    subst (λ (X : AtomSet). Labelled B X a A.label) e A.labelled in
    let same = label-unique B C.model C.only.model.founded a A.label C.label moved C.labelled in
    let told : ReasonLine (active B) C.model n a (first_no (reason_questions document a C.label)) out =
    subst (λ (l : Label). ReasonLine (active B) C.model n a (first_no (reason_questions document a l)) out) same
    (subst (λ (X : AtomSet). ReasonLine (active B) X n a (first_no (reason_questions document a A.label)) out) e
    A.told) in
    reason-line-unique (active B) C.model n a (first_no (reason_questions document a C.label)) out more told
    C.told

labels-unique-lines : (B : Pages) (out more : List ℕ) → SeesLabels B out → SeesLabels B more → out ≡ more
labels-unique-lines B out more A C =
    let e = one-model A.only C.only in
    A.told ∙ labels-same A.label C.label document.atoms (λ a l. label-unique B C.model
    C.only.model.founded a (A.label a) (C.label a)
    (subst (λ (X : AtomSet). Labelled B X a (A.label a)) e (A.labelled a l)) (C.labelled a l)) ∙ sym C.told

seen-unique : (B : Pages) (n : ℕ) (l : Line) (out more : List ℕ) → Seen B n l out → Seen B n l more → out ≡ more
seen-unique B n is_blank out more e g = e ∙ sym g
seen-unique B n too_long out more e g = e ∙ sym g
seen-unique B n no_command out more e g = e ∙ sym g
seen-unique B n (is (sheet.add head ps ns)) out more e g = e ∙ sym g
seen-unique B n (is (sheet.remove s)) out more e g = e ∙ sym g
seen-unique B n (is (sheet.replace s head ps ns)) out more e g = e ∙ sym g
seen-unique B n (is (sheet.why atom)) out more A C = reason-unique-line B n atom out more A C
seen-unique B n (is sheet.labels) out more A C = labels-unique-lines B out more A C

lines-unique :
    {B : Pages} {n : ℕ} {ls : List (List ℕ)} {out more : List ℕ} → LinesPrint B n ls out → LinesPrint B n ls more
    → out ≡ more
lines-unique no_line no_line = refl
lines-unique {B} {n} (one_line {line = l} printed f p) (one_line again g q) =
    ap₂ (λ (xs ys : List ℕ). xs ++ ys) (seen-unique B n (reading l) printed again f g) (lines-unique p q)

-- The book prints one list of bytes of a sheet: its pages and the line's number determine what each line prints, since
-- the unmuted rules have one admissible model.
pub book-prints-unique :
    (input : List ℕ) {out more : List ℕ} → BookPrints input out → BookPrints input more → out ≡ more
book-prints-unique input p q = lines-unique p q
