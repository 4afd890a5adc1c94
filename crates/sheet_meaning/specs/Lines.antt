-- What a line of a sheet does (specification 6.7 to 6.9): the bytes that it prints, and the table after it. Assumes
-- nothing.
use Rattle.std.specs.Prelude.{ℕ, ◌<◌, ◌≡◌, List, [], take, replicate, Ok, Err}
use Rattle.theory.specs.Rules.{active}
use Rattle.theory.specs.Models.{AtomSet, Admissible}
use Rattle.theory.specs.Labels.{Label, Labelled}
use Rattle.theory.specs.Limits.{document}
use Rattle.table.specs.declared.Table.{Table}
use Rattle.table.specs.Questions.{rule_from}
use Rattle.table.specs.Sound.{Sound}
use Rattle.calls.specs.Answers.{AddAnswer, ChangeAnswer, ListAnswer}
use Rattle.refusals.specs.declared.Refusal.TheVariants.{TableUnsound}
use Rattle.refusals.specs.Refusals.{number_of}
use Rattle.calls.specs.Ends.{held, AddEnds, RemoveEnds, ReplaceEnds, ReasonEnds}
use Rattle.sheet_lines.specs.Commands as sheet
use Rattle.sheet_lines.specs.Readings.{is_blank, too_long, no_command, is, reading}
use Rattle.fields.specs.Texts.{bytes}
use Rattle.sheet_printing.specs.Printed.{named, why_line, refusal_line}
use Rattle.sheet_label_lines.specs.LabelLines.{label_lines}

-- The line that tells the answer of a call, on line n of the sheet: of an addition; of a removal or a replacement, by
-- its word; of a reason.
abbrev pub tell_add : ℕ → AddAnswer → List ℕ
tell_add n (Ok s) = named (bytes "slot") s.0
tell_add n (Err f) = refusal_line n (number_of f)

abbrev pub tell_change : List ℕ → ℕ → ℕ → ChangeAnswer → List ℕ
tell_change word n slot (Ok done) = named word slot
tell_change word n slot (Err f) = refusal_line n (number_of f)

abbrev pub tell_reason : ℕ → ListAnswer → List ℕ → List ℕ
tell_reason n (Ok k) buffer = why_line (take k buffer)
tell_reason n (Err f) buffer = refusal_line n (number_of f)

-- The buffer that is lent for a reason: room for a slot of each atom.
abbrev pub lent : List ℕ
lent = replicate document.atoms 0

-- Line n of a sheet, met with the table t: what it prints, and the table after it. Questions: 14, 13, then those of the
-- call. A line that doesn't read as a command leaves the table as it was. The labels are asked for as by the call on
-- one label: 15 first.
pub data Prints (t : Table) (n : ℕ) (line : List ℕ) : List ℕ → Table → Type 0 where
  blank : reading line ≡ is_blank → Prints t n line [] t
  long : reading line ≡ too_long → Prints t n line (refusal_line n 14) t
  unread : reading line ≡ no_command → Prints t n line (refusal_line n 13) t
  add :
      (head : ℕ) (ps ns : List ℕ) (answer : AddAnswer) (u : Table) → reading line ≡ is (sheet.add head ps ns)
      → AddEnds t (rule_from head ps ns) answer u → Prints t n line (tell_add n answer) u
  remove :
      (slot : ℕ) (answer : ChangeAnswer) (u : Table) → reading line ≡ is (sheet.remove slot)
      → RemoveEnds t slot answer u → Prints t n line (tell_change (bytes "removed") n slot answer) u
  replace :
      (slot head : ℕ) (ps ns : List ℕ) (answer : ChangeAnswer) (u : Table)
      → reading line ≡ is (sheet.replace slot head ps ns) → ReplaceEnds t slot (rule_from head ps ns) answer u
      → Prints t n line (tell_change (bytes "replaced") n slot answer) u
  why :
      (atom : ℕ) (answer : ListAnswer) (buffer : List ℕ) → reading line ≡ is (sheet.why atom)
      → ReasonEnds t atom lent answer buffer → Prints t n line (tell_reason n answer buffer) t
  unsound : reading line ≡ is sheet.labels → (Sound t → ⊥) → Prints t n line (refusal_line n (number_of TableUnsound)) t
  labels :
      (M : AtomSet) (label : ℕ → Label) → reading line ≡ is sheet.labels → Sound t → Admissible (active (held t)) M
      → ((a : ℕ) → a < document.atoms → Labelled (held t) M a (label a))
      → Prints t n line (label_lines label document.atoms) t
