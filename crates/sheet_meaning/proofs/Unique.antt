-- A line determines what it prints and the table after it; so do the bytes of a sheet, and a whole sheet. Assumes
-- nothing.
use Prim.Native.Nat.{ℕ, zero, suc, ◌<◌}
use native.Mathlib.Omega.{arith}
use mathlib.Core.Path.{◌≡◌, refl, sym, ◌∙◌, ap, ap₂, subst}
use mathlib.Core.Logic.{◌⊎◌, inl, inr}
use mathlib.Core.List.{List, [], ◌∷◌, ◌++◌}
use Rattle.theory.specs.Rules.{active}
use Rattle.theory.specs.Models.{AtomSet, Admissible}
use Rattle.theory.specs.Labels.{Label, Labelled}
use Rattle.theory.specs.Limits.{document}
use Rattle.table.specs.declared.Table.{Table}
use Rattle.table.specs.Questions.{rule_from}
use Rattle.table.specs.Sound.{Sound}
use Rattle.calls.specs.Answers.{AddAnswer, ChangeAnswer, ListAnswer}
use Rattle.refusals.specs.declared.Refusal.TheVariants.{TableUnsound}
use Rattle.refusals.specs.Refusals.{number_of}
use Rattle.calls.specs.Ends.{held, AddEnds, RemoveEnds, ReplaceEnds, ReasonEnds}
use Rattle.theory.proofs.Labels.{same-label}
use Rattle.calls.proofs.Determined.{add-determined, remove-determined, replace-determined, reason-determined}
use Rattle.sheet_lines.specs.Commands as sheet
use Rattle.sheet_lines.specs.Readings.{Line, is_blank, too_long, no_command, is, reading}
use Rattle.fields.specs.Texts.{bytes}
use Rattle.sheet_printing.specs.Printed.{refusal_line}
use Rattle.sheet_label_lines.specs.LabelLines.{label_line, label_lines}
use Rattle.sheet_meaning.specs.Lines as prints
use Rattle.sheet_meaning.specs.Lines.{lent, tell_add, tell_change, tell_reason, Prints}
use Rattle.sheet_meaning.specs.Sheets.{State, longer, ended, Reads, stop, byte, newline, SheetPrints}

-- Every label of a sound table, and the lines that list them.
record LabelsListed (t : Table) (bs : List ℕ) : Type 0 where
  model : AtomSet
  label : ℕ → Label
  sound : Sound t
  admissible : Admissible (active (held t)) model
  labelled : (a : ℕ) → a < document.atoms → Labelled (held t) model a (label a)
  lines : bs ≡ label_lines label document.atoms

-- What a line prints, by the case of its reading.
abbrev Ends : Table → ℕ → Line → List ℕ → Table → Type 0
Ends t n is_blank bs u = (bs ≡ []) × (u ≡ t)
Ends t n too_long bs u = (bs ≡ refusal_line n 14) × (u ≡ t)
Ends t n no_command bs u = (bs ≡ refusal_line n 13) × (u ≡ t)
Ends t n (is (sheet.add head ps ns)) bs u =
    (answer : AddAnswer) × AddEnds t (rule_from head ps ns) answer u × (bs ≡ tell_add n answer)
Ends t n (is (sheet.remove slot)) bs u =
    (answer : ChangeAnswer) × RemoveEnds t slot answer u × (bs ≡ tell_change (bytes "removed") n slot answer)
Ends t n (is (sheet.replace slot head ps ns)) bs u =
    (answer : ChangeAnswer) × ReplaceEnds t slot (rule_from head ps ns) answer u
    × (bs ≡ tell_change (bytes "replaced") n slot answer)
Ends t n (is (sheet.why atom)) bs u =
    (answer : ListAnswer) × (buffer : List ℕ) × ReasonEnds t atom lent answer buffer
    × (bs ≡ tell_reason n answer buffer) × (u ≡ t)
Ends t n (is sheet.labels) bs u =
    (((Sound t → ⊥) × (bs ≡ refusal_line n (number_of TableUnsound))) ⊎ LabelsListed t bs) × (u ≡ t)

module _ (t : Table) (n : ℕ) (line : List ℕ) where
  on : {l : Line} (bs : List ℕ) (u : Table) → reading line ≡ l → Ends t n l bs u → Ends t n (reading line) bs u
  on bs u e f = subst (λ (k : Line). Ends t n k bs u) (sym e) f

  ends : {bs : List ℕ} {u : Table} → Prints t n line bs u → Ends t n (reading line) bs u
  ends (prints.blank e) = on _ _ e (refl, refl)
  ends (prints.long e) = on _ _ e (refl, refl)
  ends (prints.unread e) = on _ _ e (refl, refl)
  ends (prints.add head ps ns answer u e f) = on _ _ e (answer, f, refl)
  ends (prints.remove slot answer u e f) = on _ _ e (answer, f, refl)
  ends (prints.replace slot head ps ns answer u e f) = on _ _ e (answer, f, refl)
  ends (prints.why atom answer buffer e f) = on _ _ e (answer, buffer, f, refl, refl)
  ends (prints.unsound e f) = on _ _ e (inl (f, refl), refl)
  ends (prints.labels M label e s a l) =
      on _ _ e
      (inr (record { model = M; label = label; sound = s; admissible = a; labelled = l; lines = refl }), refl)

pub labels-same :
    (f g : ℕ → Label) (n : ℕ) → ((a : ℕ) → a < n → f a ≡ g a) → label_lines f n ≡ label_lines g n
unfolding label_lines
labels-same f g zero same = refl
labels-same f g (suc n) same =
    ap₂ (λ (xs ys : List ℕ). xs ++ ys) (labels-same f g n (λ a l. same a (omega arith)))
    (ap (label_line n) (same n (omega arith)))

lists-same : {t : Table} {bs cs : List ℕ} → LabelsListed t bs → LabelsListed t cs → bs ≡ cs
lists-same {t} p q =
    p.lines ∙ labels-same p.label q.label document.atoms (λ a l. same-label (held t) p.model q.model a
    (p.label a) (q.label a) p.sound.rules.acyclic p.admissible q.admissible (p.labelled a l)
    (q.labelled a l)) ∙ sym q.lines

ends_same :
    (t : Table) (n : ℕ) (l : Line) (bs cs : List ℕ) (u v : Table) → Ends t n l bs u → Ends t n l cs v
    → (bs ≡ cs) × (u ≡ v)
ends_same t n is_blank bs cs u v (e, f) (g, h) = (e ∙ sym g, f ∙ sym h)
ends_same t n too_long bs cs u v (e, f) (g, h) = (e ∙ sym g, f ∙ sym h)
ends_same t n no_command bs cs u v (e, f) (g, h) = (e ∙ sym g, f ∙ sym h)
ends_same t n (is (sheet.add head ps ns)) bs cs u v (x, p, e) (y, q, g) =
    let same = add-determined t (rule_from head ps ns) x y u v p q in
    (e ∙ ap (tell_add n) same.0 ∙ sym g, same.1)
ends_same t n (is (sheet.remove slot)) bs cs u v (x, p, e) (y, q, g) =
    let same = remove-determined t slot x y u v p q in
    (e ∙ ap (tell_change (bytes "removed") n slot) same.0 ∙ sym g, same.1)
ends_same t n (is (sheet.replace slot head ps ns)) bs cs u v (x, p, e) (y, q, g) =
    let same = replace-determined t slot (rule_from head ps ns) x y u v p q in
    (e ∙ ap (tell_change (bytes "replaced") n slot) same.0 ∙ sym g, same.1)
ends_same t n (is (sheet.why atom)) bs cs u v (x, b, p, e, f) (y, d, q, g, h) =
    let same = reason-determined t atom lent x y b d p q in
    (e ∙ ap₂ (tell_reason n) same.0 same.1 ∙ sym g, f ∙ sym h)
ends_same t n (is sheet.labels) bs cs u v (inl (a, e), f) (inl (b, g), h) = (e ∙ sym g, f ∙ sym h)
ends_same t n (is sheet.labels) bs cs u v (inl (a, e), f) (inr q, h) = absurd (a q.sound)
ends_same t n (is sheet.labels) bs cs u v (inr p, f) (inl (b, g), h) = absurd (b p.sound)
ends_same t n (is sheet.labels) bs cs u v (inr p, f) (inr q, h) = (lists-same p q, f ∙ sym h)

-- A line determines what it prints and the table after it: its bytes tell which command it is, and each call's contract
-- determines its answer and the table after it.
pub prints-unique :
    {t u v : Table} {n : ℕ} {line bs cs : List ℕ} → Prints t n line bs u → Prints t n line cs v
    → (bs ≡ cs) × (u ≡ v)
prints-unique {t} {u} {v} {n} {line} {bs} {cs} p q = ends_same t n (reading line) bs cs u v (ends t n line p)
    (ends t n line q)

-- A list that is empty has no first element.
nothing : {b : ℕ} {bs : List ℕ} → [] ≡ b ∷ bs → ⊥
nothing e = let z : ◌≡◌ {A = ℕ} 0 1 = cc in omega arith

first-same : {b c : ℕ} {bs cs : List ℕ} → b ∷ bs ≡ c ∷ cs → (b ≡ c) × (bs ≡ cs)
first-same e = (cc, cc)

-- The bytes of a sheet determine what they print and where the reading stands after them: byte for byte, a newline ends
-- a line and no other byte does.
pub reads-unique :
    {s z u v : State} {xs ys out more : List ℕ} → Reads s xs out u → Reads z ys more v → s ≡ z → xs ≡ ys
    → (out ≡ more) × (u ≡ v)
reads-unique stop stop e f = (refl, e)
reads-unique stop (byte b q) e f = absurd (nothing f)
reads-unique stop (newline p q) e f = absurd (nothing f)
reads-unique (byte b q) stop e f = absurd (nothing (sym f))
reads-unique (byte b q) (byte d r) e f =
    reads-unique q r (ap₂ (λ (x : State) (y : ℕ). longer x (y ∷ [])) e (first-same f).0) (first-same f).1
reads-unique (byte b q) (newline p r) e f = absurd (b (first-same f).0)
reads-unique (newline p q) stop e f = absurd (nothing (sym f))
reads-unique (newline p q) (byte b r) e f = absurd (b (sym (first-same f).0))
reads-unique (newline {u = u} {printed = bs} p q) (newline p' r) e f =
    let same = prints-unique (subst (λ (x : State). Prints x.table x.number x.line bs u) e p) p' in
    let rest = reads-unique q r (ap₂ ended e same.1) (first-same f).1 in
    (ap₂ (λ (x y : List ℕ). x ++ y) same.0 rest.0, rest.1)

-- A sheet prints one list of bytes.
pub sheet-prints-unique : {input out more : List ℕ} → SheetPrints input out → SheetPrints input more → out ≡ more
sheet-prints-unique p q =
    let same = reads-unique p.reads q.reads refl refl in
    let moved =
    subst (λ (x : State). Prints x.table x.number x.line p.last p.after) same.1 p.prints in
    p.whole ∙ ap₂ (λ (x y : List ℕ). x ++ y) same.0 (prints-unique moved q.prints).0 ∙ sym q.whole
