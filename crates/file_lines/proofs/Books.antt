-- What is printed of a file and the plain book, joined: it is what the book shows of the file's pages. Assumes nothing.
use Rattle.std.specs.Prelude.{Ok, Err}
use Prim.Native.Nat.{ℕ, ◌+◌, ◌≤◌, ◌<◌}
use native.Mathlib.Omega.{arith}
use mathlib.Core.Path.{◌≡◌, refl, sym, ◌∙◌, ap, subst}
use mathlib.Core.Logic.{⊎_elim}
use mathlib.Core.Bool.{true}
use mathlib.Core.List.{List}
use mathlib.Core.Option.{Option, some}
use lib.ListN.{length, take, length-take}
use lib.Seq.{take_all, take-take}
use Rattle.theory.specs.Rules.{active, Pages}
use Rattle.theory.specs.Models.{OnlyModel}
use Rattle.theory.specs.Labels.{Labelled}
use Rattle.theory.specs.Questions.{first_no}
use Rattle.theory.specs.Limits.{document}
use Rattle.theory.proofs.Lists.{le-or-lt, unless}
use Rattle.theory.proofs.Questions.{first_no-here}
use Rattle.theory.proofs.Slots.{labelled}
use Rattle.table.specs.declared.Table.{Table}
use Rattle.table.specs.Clean.{empty_table}
use Rattle.table.specs.Labels.{label_at}
use Rattle.table.specs.Sound.{Sound}
use Rattle.file_blocks.specs.Questions.{file_questions, whole}
use Rattle.file_blocks.proofs.Reading.{whole_parts}
use Rattle.calls.specs.Answers.{ChangeAnswer}
use Rattle.refusals.specs.declared.Refusal.TheVariants.{WrongLength}
use Rattle.calls.specs.Ends as contract
use Rattle.calls.specs.Ends.{held, LoadEnds}
use Rattle.calls.proofs.Determined.{load-determined}
use Rattle.history.proofs.Sequence.{sound-model}
use Rattle.sheet_meaning.specs.Sheets.{MOST, cut}
use Rattle.sheet_meaning.specs.Seen.{SeesLabels}
use Rattle.file_lines.specs.Loads.{LONGEST, refused_line, tell_load, LoadPrints, LoadSeen, BookLoads}

-- Loading: one list of bytes is printed of a file, and it is what the book shows.

pub load-prints-unique : {file out more : List ℕ} → LoadPrints file out → LoadPrints file more → out ≡ more
load-prints-unique {file} p q =
    let same = load-determined file p.answer q.answer p.table q.table p.ends q.ends in
    p.told ∙ ap (λ (x : ChangeAnswer). tell_load x p.table) same.0 ∙ ap (tell_load q.answer) same.1
    ∙ sym q.told

-- The labels read off a sound table are those that the book shows of its rules.
table-labels :
    {B : Pages} {out : List ℕ} (u : Table) → Sound u → held u ≡ B → out ≡ tell_load (Ok tt) u
    → SeesLabels B out
table-labels {B} u S h told =
    let model = S.kept.model in
    record {
      model = model;
      only = subst (λ (C : Pages). OnlyModel (active C) model) h (sound-model u S);
      label = label_at u.words;
      labelled = λ a l.
          subst (λ (C : Pages). Labelled C model a (label_at u.words a)) h (labelled (held u) _ _ S.kept a);
      told = told;
    }

load-seen :
    (file out : List ℕ) (x : ChangeAnswer) (u : Table) → LoadEnds file x u → out ≡ tell_load x u → BookLoads file out
load-seen file out x u (contract.refused f e) told = subst (λ (o : Option ℕ). LoadSeen file o out) (sym e) told
load-seen file out x u (contract.accepted w e Z h S) told =
    subst (λ (o : Option ℕ). LoadSeen file o out) (sym e) (table-labels w S h told)

pub load-book : {file out : List ℕ} → LoadPrints file out → BookLoads file out
load-book {file} {out} p = load-seen file out p.answer p.table p.ends p.told

-- Bytes that are more than a file can have are refused by 16, whatever they are.

pub whole-short : (file : List ℕ) → whole file ≡ true → length file ≤ LONGEST
whole-short file t =
    let w = whole_parts file t in
    omega (arith, w.length, w.most)

pub longer-16 : (file : List ℕ) → LONGEST < length file → first_no (file_questions document file) ≡ some 16
longer-16 file l = first_no-here _ _ (unless (whole file) (λ t. omega (arith, l, whole-short file t)))

longer-prints : (file : List ℕ) → LONGEST < length file → LoadPrints file (refused_line 16)
longer-prints file l =
    record {
      answer = Err WrongLength;
      table = empty_table;
      ends = contract.refused WrongLength (longer-16 file l);
      told = refl;
    }

-- So what is printed of the bytes that are read is what is printed of the whole input.
pub whole-input : (input : List ℕ) {out : List ℕ} → LoadPrints (take (LONGEST + 1) input) out → LoadPrints input out
whole-input input {out} p = ⊎_elim
    (λ (l : length input ≤ LONGEST). (
    let same = take_all (LONGEST + 1) input (omega (arith, l)) in
    subst (λ (f : List ℕ). LoadPrints f out) same p))
    (λ (l : LONGEST < length input). (
    let long : LONGEST < length (take (LONGEST + 1) input) = omega (arith, l, length-take (LONGEST + 1) input) in
    let same = load-prints-unique p (longer-prints (take (LONGEST + 1) input) long) in
    subst (LoadPrints input) (sym same) (longer-prints input l)))
    (le-or-lt (length input) LONGEST)

-- And of its first 1,048,576 bytes, which are what a program reads.
pub first-bytes :
    (input : List ℕ) {out : List ℕ} → LoadPrints (take (LONGEST + 1) input) out → LoadPrints (cut input) out
first-bytes input {out} p =
    let same = take-take (LONGEST + 1) MOST input (omega arith) in
    whole-input (cut input) (subst (λ (f : List ℕ). LoadPrints f out) (sym same) p)
