-- What a person sees printed of a sheet, by the plain book alone: no table, no labels kept, no question 15. Assumes
-- nothing.
use Rattle.std.specs.Prelude.{ℕ, suc, ◌<◌, ◌≡◌, List, [], ◌∷◌, ◌++◌}
use Rattle.std.proofs.Math.Option.{Option, none, some}
use Rattle.theory.specs.Rules.{Program, Pages, active}
use Rattle.theory.specs.Models.{AtomSet, OnlyModel}
use Rattle.theory.specs.Labels.{Label, Labelled}
use Rattle.theory.specs.Explanations.{Reason}
use Rattle.theory.specs.Questions.{first_no, reason_questions}
use Rattle.theory.specs.Limits.{document}
use Rattle.theory.specs.Book.{add, remove, replace, Answer, refused, slot, accepted, empty, answer}
use Rattle.table.specs.Questions.{rule_from}
use Rattle.history.specs.Calls.{calls_after}
use Rattle.sheet_lines.specs.Commands as sheet
use Rattle.sheet_lines.specs.Readings.{Line, is_blank, too_long, no_command, is, reading}
use Rattle.fields.specs.Texts.{bytes}
use Rattle.sheet_printing.specs.Printed.{named, why_line, refusal_line}
use Rattle.sheet_label_lines.specs.LabelLines.{label_lines}
use Rattle.sheet_meaning.specs.Calls.{line_calls, lines_of}

-- The line that tells the book's answer, on line n of the sheet: to an addition, which is never answered "accepted"
-- (the law `add-not-accepted`); and, by its word, to a removal or a replacement, which is never answered a slot
-- (`remove-not-a-slot`, `replace-not-a-slot`).
abbrev pub add_line : ℕ → Answer → List ℕ
add_line n (slot s) = named (bytes "slot") s
add_line n (refused k) = refusal_line n k
add_line n accepted = []

abbrev pub change_line : List ℕ → ℕ → ℕ → Answer → List ℕ
change_line word n s accepted = named word s
change_line word n s (refused k) = refusal_line n k
change_line word n s (slot t) = []

-- `W` and an atom: of 10 (its number) and 12 (its label) the first answered no is the refusal; else the slots of its
-- reason. Label and reason are those defined for the book's pages, in the one admissible model of the unmuted rules. 11
-- cannot be met: there is room for a slot of every atom.
abbrev pub ReasonLine : Program → AtomSet → ℕ → ℕ → Option ℕ → List ℕ → Type 0
ReasonLine P M n a (some k) out = out ≡ refusal_line n k
ReasonLine P M n a none out = (slots : List ℕ) × Reason P M a slots × (out ≡ why_line slots)

pub record SeesReason (B : Pages) (n a : ℕ) (out : List ℕ) : Type 0 where
  pub model : AtomSet
  pub only : OnlyModel (active B) model
  pub label : Label
  pub labelled : Labelled B model a label
  pub told : ReasonLine (active B) model n a (first_no (reason_questions document a label)) out

-- `L`: a line for each atom that occurs, ascending, with the label defined for the book's pages.
pub record SeesLabels (B : Pages) (out : List ℕ) : Type 0 where
  pub model : AtomSet
  pub only : OnlyModel (active B) model
  pub label : ℕ → Label
  pub labelled : (a : ℕ) → a < document.atoms → Labelled B model a (label a)
  pub told : out ≡ label_lines label document.atoms

-- What line n prints, by what it is, with the book's pages B before it.
abbrev pub Seen : Pages → ℕ → Line → List ℕ → Type 0
Seen B n is_blank out = out ≡ []
Seen B n too_long out = out ≡ refusal_line n 14
Seen B n no_command out = out ≡ refusal_line n 13
Seen B n (is (sheet.add head ps ns)) out = out ≡ add_line n (answer document B (add (rule_from head ps ns)))
Seen B n (is (sheet.remove s)) out = out ≡ change_line (bytes "removed") n s (answer document B (remove s))
Seen B n (is (sheet.replace s head ps ns)) out =
    out ≡ change_line (bytes "replaced") n s (answer document B (replace s (rule_from head ps ns)))
Seen B n (is (sheet.why atom)) out = SeesReason B n atom out
Seen B n (is sheet.labels) out = SeesLabels B out

-- The book's pages after a line.
abbrev pub pages_after : Pages → Line → Pages
pages_after B line = calls_after document B (line_calls line)

-- What lines print, one after another: the first is line n and meets the pages B, the next meets the pages after it.
pub data LinesPrint : Pages → ℕ → List (List ℕ) → List ℕ → Type 0 where
  no_line : {B : Pages} {n : ℕ} → LinesPrint B n [] []
  one_line :
      {B : Pages} {n : ℕ} {line : List ℕ} {lines : List (List ℕ)} {out : List ℕ} (printed : List ℕ)
      → Seen B n (reading line) printed → LinesPrint (pages_after B (reading line)) (suc n) lines out
      → LinesPrint B n (line ∷ lines) (printed ++ out)

-- All that a sheet prints, by the plain book. All pages are free at first; lines count from 1.
abbrev pub BookPrints : List ℕ → List ℕ → Type 0
BookPrints sheet out = LinesPrint (empty document) 1 (lines_of sheet) out
