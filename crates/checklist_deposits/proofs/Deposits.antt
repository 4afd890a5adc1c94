-- Request #106 over sequences holds: `deposit`, whatever calls came before the opening (`deposit-after`); and after an
-- opening that was refused every call on a file meets 15 (`refused-opening`). Assumes nothing.
use Rattle.std.specs.Prelude.{Ok}
use Prim.Native.Nat.{ℕ, ◌≤◌}
use native.Mathlib.Omega.{arith}
use mathlib.Core.Path.{◌≡◌, refl, sym, ◌∙◌, ap, ap₂, subst}
use mathlib.Core.Logic.{inl, inr, ⊎_elim, ◌↔◌}
use mathlib.Core.Bool.{Bool, true, false, not, ◌&&◌, ◌||◌}
use mathlib.Core.List.{List, [], ◌∷◌, ◌++◌, map}
use mathlib.Core.Option.{Option, none, some, some-injective, none-ne-some}
use lib.Dec.{eqb, leb}
use lib.ListN.{length, drop}
use Rattle.theory.specs.Lists.{Lists}
use Rattle.theory.specs.Rules.{Pages, all}
use Rattle.theory.specs.Questions.{first_no, asks, is_some}
use Rattle.theory.specs.Book.{Answer, refused, accepted}
use Rattle.theory.specs.Limits.{document}
use Rattle.theory.proofs.Lists.{and_l, and_r, or_cases, or_l, or_r, not-true, false-not}
use Rattle.theory.proofs.Lists.{same_test, eqb-eq, eqb_of, eqb-not, leb-le}
use Rattle.theory.proofs.Questions.{first_no-none}
use Rattle.table.specs.declared.Table.{Table}
use Rattle.table.specs.Clean.{empty_table}
use Rattle.table.specs.Sound.{Sound}
use Rattle.calls.specs.Answers.{ChangeAnswer}
use Rattle.calls.specs.Answers.{ListAnswer}
use Rattle.calls.specs.Answers.{book_change}
use Rattle.calls.specs.Ends.{held}
use Rattle.checklist_frame.specs.Frame.{Checklist, most_files, sent, skipped, on_list, is_mark, files_of, marked}
use Rattle.checklist_meaning.specs.Questions.{FileCall, file_sent, file_skipped, skip_withdrawn, file, allowed}
use Rattle.checklist_meaning.specs.Questions.{mark_questions, open_questions}
use Rattle.checklist_meaning.specs.Book.{opening, of_file, marks_changed, opened}
use Rattle.checklist_meaning.specs.Ends as list
use Rattle.checklist_meaning.specs.Ends.{CompleteAnswer, OpenEnds, FileEnds, MissingEnds, CompleteEnds}
use Rattle.checklist_deposits.specs.Standing.{was_accepted, sent_by, standing_by, unless_refused, after_calls}
use Rattle.checklist_deposits.specs.Standing.{been_sent, skip_standing}
use Rattle.checklist_frame.proofs.Frames.{on-list-between, between-on-list, of-checklist, sent-mark, skipped-mark}
use Rattle.checklist_meaning.proofs.Marks.{Single, free-slot, added-checklist, added-marked, removed-checklist}
use Rattle.checklist_meaning.proofs.Marks.{removed-marked}
use Rattle.checklist_meaning.proofs.Model.{complete-iff}
use Rattle.checklist_meaning.proofs.Shown.{AllClear, Missing, counted, count-clear, clear-count}
use Rattle.checklist_meaning.proofs.Shown.{complete-clear, clear-complete, no-checklist-file, empty-no-files}
use Rattle.checklist_meaning.proofs.Opened.{opened-checklist, opened-unmarked}
use Rattle.history.specs.Calls.{Call, checklist, calls_answers, calls_after}
use Rattle.history.specs.Claim.{Step, adds, removes, replaces, mutes, loads, opens, marks, Trace, stop, call}
use Rattle.checklist_deposits.specs.Deposits.{file_calls, deposit_calls, NoneMissing, MissingFile, Deposit}
use Rattle.history.proofs.Sequence.{step_follows, trace-agrees, empty-held}

-- The atoms of marks are as different as the files, and as sent and skipped.

sent-same : (i j : ℕ) → 1 ≤ i → 1 ≤ j → eqb (sent j) (sent i) ≡ eqb i j
sent-same i j l k = same_test _ _
    (λ t. (let e = eqb-eq (sent j) (sent i) t in eqb_of i j (omega arith)))
    (λ t. (let e = eqb-eq i j t in eqb_of (sent j) (sent i) (omega arith)))

skipped-same : (i j : ℕ) → 1 ≤ i → 1 ≤ j → eqb (skipped j) (skipped i) ≡ eqb i j
skipped-same i j l k = same_test _ _
    (λ t. (let e = eqb-eq (skipped j) (skipped i) t in eqb_of i j (omega arith)))
    (λ t. (let e = eqb-eq i j t in eqb_of (skipped j) (skipped i) (omega arith)))

sent-skipped : (i j : ℕ) → 1 ≤ i → 1 ≤ j → eqb (sent j) (skipped i) ≡ false
sent-skipped i j l k = eqb-not (sent j) (skipped i) (λ e. omega arith)

skipped-sent : (i j : ℕ) → 1 ≤ i → 1 ≤ j → eqb (skipped j) (sent i) ≡ false
skipped-sent i j l k = eqb-not (skipped j) (sent i) (λ e. omega arith)

-- A call on a file that is accepted leaves a checklist of as many files, and changes the marks as its words say.
record Moved (B D : Pages) (n : ℕ) (c : FileCall) : Type 0 where
  pub list : Checklist D n
  pub sends : (i : ℕ) → 1 ≤ i → i ≤ n → marked D (sent i) ≡ sent_by i c (marked B (sent i))
  pub skips : (i : ℕ) → 1 ≤ i → i ≤ n → marked D (skipped i) ≡ standing_by i c (marked B (skipped i))

moved :
    (B : Pages) (n : ℕ) → Checklist B n → Single (all B) → length B ≡ document.slots → (c : FileCall) → 1 ≤ file c
    → file c ≤ n → allowed B c ≡ true → Moved B (marks_changed B c) n c
moved B n C S size (file_sent j) l h a =
    let w = free-slot B n C S size in
    let added = added-marked B w.0 (sent j) w.1 in
    record {
      list = added-checklist B w.0 (sent j) w.1 n C (sent-mark n j l h);
      sends = λ i k m. added (sent i) ∙ ap (λ (b : Bool). b || marked B (sent i)) (sent-same i j k l);
      skips = λ i k m. added (skipped i) ∙ ap (λ (b : Bool). b || marked B (skipped i)) (sent-skipped i j k l);
    }
moved B n C S size (file_skipped j) l h a =
    let w = free-slot B n C S size in
    let added = added-marked B w.0 (skipped j) w.1 in
    record {
      list = added-checklist B w.0 (skipped j) w.1 n C (skipped-mark n j l h);
      sends = λ i k m. added (sent i) ∙ ap (λ (b : Bool). b || marked B (sent i)) (skipped-sent i j k l);
      skips = λ i k m. added (skipped i) ∙ ap (λ (b : Bool). b || marked B (skipped i)) (skipped-same i j k l);
    }
moved B n C S size (skip_withdrawn j) l h a =
    let removed = removed-marked B S (skipped j) a in
    record {
      list = removed-checklist B S (skipped j) a n C (skipped-mark n j l h);
      sends = λ i k m. removed (sent i) ∙ ap (λ (b : Bool). not b && marked B (sent i)) (skipped-sent i j k l);
      skips = λ i k m. removed (skipped i) ∙ ap (λ (b : Bool). not b && marked B (skipped i)) (skipped-same i j k l);
    }

-- What the questions of a call on a file say where all are answered yes.
asked-file :
    (B : Pages) (n : ℕ) (c : FileCall) → files_of B ≡ some n → first_no (mark_questions B c) ≡ none
    → (1 ≤ file c) × (file c ≤ n) × (allowed B c ≡ true)
asked-file B n c f e =
    let a = first_no-none (asks 15 (is_some (files_of B))) _ e in
    let b = first_no-none (asks 20 (on_list (files_of B) (file c))) _ a.1 in
    let d = first_no-none (asks 22 (allowed B c)) [] b.1 in
    let o : on_list (some n) (file c) ≡ true = ap (λ (k : Option ℕ). on_list k (file c)) (sym f) ∙ b.0 in
    (leb-le 1 (file c) (and_l (leb 1 (file c)) _ o), leb-le (file c) n (and_r (leb 1 (file c)) _ o), d.0)

-- One call on a file, by its answer: one that was refused changes nothing.
record Marked (B D : Pages) (n : ℕ) (c : FileCall) (x : Answer) : Type 0 where
  pub list : Checklist D n
  pub sends :
      (i : ℕ) → 1 ≤ i → i ≤ n
      → marked D (sent i) ≡ unless_refused (was_accepted x) (sent_by i c (marked B (sent i))) (marked B (sent i))
  pub skips :
      (i : ℕ) → 1 ≤ i → i ≤ n
      → marked D (skipped i)
      ≡ unless_refused (was_accepted x) (standing_by i c (marked B (skipped i))) (marked B (skipped i))

file-marked :
    (n : ℕ) {t u : Table} (c : FileCall) {y : ChangeAnswer} → Sound t → Checklist (held t) n → FileEnds t c y u
    → Marked (held t) (held u) n c (book_change y)
file-marked n {t} c S C (list.unsound f) =
    absurd (none-ne-some n (sym (f S) ∙ of-checklist (held t) n C))
file-marked n c S C (list.refused f T e) = record { list = C; sends = λ i l h. refl; skips = λ i l h. refl }
file-marked n {t} c S C (list.accepted u T e Z h U) =
    let a = asked-file (held t) n c (of-checklist (held t) n C) e in
    let m = subst (λ (D : Pages). Moved (held t) D n c) (sym h)
    (moved (held t) n C S.rules.single S.rules.slots c a.0 a.1 a.2) in
    record { list = m.list; sends = m.sends; skips = m.skips }

-- A step that makes a call on a file, and one that opens a checklist, as their contracts say.

abbrev Differ : Type 0
Differ = ◌≡◌ {A = ℕ} 0 1

file-step :
    {t u : Table} {d : Call} {x : Answer} (c : FileCall) → d ≡ checklist (of_file c) → Step t d x u
    → (y : ChangeAnswer) × (x ≡ book_change y) × FileEnds t c y u
file-step c e (adds E) = (let z : Differ = cc in absurd (omega arith))
file-step c e (removes E) = (let z : Differ = cc in absurd (omega arith))
file-step c e (replaces E) = (let z : Differ = cc in absurd (omega arith))
file-step c e (mutes E) = (let z : Differ = cc in absurd (omega arith))
file-step c e (loads E) = (let z : Differ = cc in absurd (omega arith))
file-step c e (opens E) = (let z : Differ = cc in absurd (omega arith))
file-step {t} {u} c e (marks {c = d} {x = y} E) =
    let q : d ≡ c = cc in
    (y, refl, subst (λ (f : FileCall). FileEnds t f y u) q E)

opening-step :
    {t u : Table} {d : Call} {x : Answer} (n : ℕ) → d ≡ checklist (opening n) → Step t d x u
    → (y : ChangeAnswer) × (x ≡ book_change y) × OpenEnds n y u
opening-step n e (adds E) = (let z : Differ = cc in absurd (omega arith))
opening-step n e (removes E) = (let z : Differ = cc in absurd (omega arith))
opening-step n e (replaces E) = (let z : Differ = cc in absurd (omega arith))
opening-step n e (mutes E) = (let z : Differ = cc in absurd (omega arith))
opening-step n e (loads E) = (let z : Differ = cc in absurd (omega arith))
opening-step {u = u} n e (opens {n = m} {x = y} E) =
    let q : m ≡ n = cc in
    (y, refl, subst (λ (k : ℕ). OpenEnds k y u) q E)
opening-step n e (marks E) = (let z : Differ = cc in absurd (omega arith))

-- An opening that is accepted.
record Opened (n : ℕ) (u : Table) : Type 0 where
  pub asked : first_no (open_questions n) ≡ none
  pub holds : held u ≡ opened document n
  pub sound : Sound u

open-accepted : {u : Table} {y : ChangeAnswer} (n : ℕ) → book_change y ≡ accepted → OpenEnds n y u → Opened n u
open-accepted n a (list.refused f r) = (let z : Differ = cc in absurd (omega arith))
open-accepted n a (list.accepted u r Z h U) = record { asked = r; holds = h; sound = U }

open_step :
    {t u : Table} {d : Call} {x : Answer} (n : ℕ) → d ≡ checklist (opening n) → x ≡ accepted → Step t d x u
    → Opened n u
open_step n e a S =
    let w = opening-step n e S in
    open-accepted n (sym w.1 ∙ a) w.2

-- A list of calls on files, by induction on the list.
record Stands (B D : Pages) (n : ℕ) (cs : List FileCall) (xs : List Answer) : Type 0 where
  pub list : Checklist D n
  pub sends : (i : ℕ) → 1 ≤ i → i ≤ n → marked D (sent i) ≡ after_calls (sent_by i) (marked B (sent i)) cs xs
  pub skips :
      (i : ℕ) → 1 ≤ i → i ≤ n → marked D (skipped i) ≡ after_calls (standing_by i) (marked B (skipped i)) cs xs

stands-more :
    {B D E : Pages} {n : ℕ} {c : FileCall} {x : Answer} {cs : List FileCall} {xs : List Answer}
    → Marked B D n c x → Stands D E n cs xs → Stands B E n (c ∷ cs) (x ∷ xs)
unfolding after_calls
stands-more {cs = cs} {xs = xs} m w = record {
  list = w.list;
  sends = λ i l h. w.sends i l h ∙ ap (λ (b : Bool). after_calls (sent_by i) b cs xs) (m.sends i l h);
  skips = λ i l h. w.skips i l h ∙ ap (λ (b : Bool). after_calls (standing_by i) b cs xs) (m.skips i l h);
}

trace-stands :
    (n : ℕ) (cs : List FileCall) {t u : Table} {ds : List Call} {xs : List Answer} → ds ≡ file_calls cs → Sound t
    → Checklist (held t) n → Trace t ds xs u → Stands (held t) (held u) n cs xs
unfolding after_calls
trace-stands n [] e S C stop = record { list = C; sends = λ i l h. refl; skips = λ i l h. refl }
trace-stands n [] e S C (call step rest) = (let z : Differ = cc in absurd (omega arith))
trace-stands n (c ∷ cs) e S C stop = (let z : Differ = cc in absurd (omega arith))
trace-stands n (c ∷ cs) {t} e S C (call {u = v} {c = d} {x = x} {cs = ds} step rest) =
    let q : d ≡ checklist (of_file c) = cc in
    let r : ds ≡ file_calls cs = cc in
    let w = file-step c q step in
    let m = subst (λ (y : Answer). Marked (held t) (held v) n c y) (sym w.1) (file-marked n c S C w.2) in
    stands-more m (trace-stands n cs r (step_follows S step).still m.list rest)

-- Where marks stand as the calls and answers say, the words about files say the same.
module _
    (n : ℕ) (cs : List FileCall) (xs : List Answer) (B : Pages)
    (sends : (i : ℕ) → 1 ≤ i → i ≤ n → marked B (sent i) ≡ been_sent i cs xs)
    (skips : (i : ℕ) → 1 ≤ i → i ≤ n → marked B (skipped i) ≡ skip_standing i cs xs) where
  clear_none : AllClear B n ↔ NoneMissing n cs xs
  clear_none = (
    λ f i l h. (let c = f i l h in (sym (sends i l h) ∙ c.0, sym (skips i l h) ∙ c.1)),
    λ f i l h. (let c = f i l h in (sends i l h ∙ c.0, skips i l h ∙ c.1)),
  )

  missing-same : files_of B ≡ some n → (i : ℕ) → Missing B i ↔ MissingFile n cs xs i
  missing-same e i = (there, back)
    where
      there : Missing B i → MissingFile n cs xs i
      there m =
          let w = on-list-between n i (ap (λ (o : Option ℕ). on_list o i) (sym e) ∙ m.0) in
          let l = w.0 in
          let h = w.1 in (
            l,
            h,
            ⊎_elim
                (λ (t : not (marked B (sent i)) ≡ true). inl (sym (sends i l h) ∙ not-true (marked B (sent i)) t))
                (λ (t : marked B (skipped i) ≡ true). inr (sym (skips i l h) ∙ t))
                (or_cases (not (marked B (sent i))) (marked B (skipped i)) m.1),
          )

      back : MissingFile n cs xs i → Missing B i
      back m =
          let l = m.0 in
          let h = m.1 in (
            ap (λ (o : Option ℕ). on_list o i) e ∙ between-on-list n i l h,
            ⊎_elim
                (λ (t : been_sent i cs xs ≡ false).
                or_l (not (marked B (sent i))) (marked B (skipped i)) (false-not _ (sends i l h ∙ t)))
                (λ (t : skip_standing i cs xs ≡ true).
                or_r (not (marked B (sent i))) (marked B (skipped i)) (skips i l h ∙ t))
                m.2,
          )

-- What holds of a sound table whose marks stand so.
module _
    (n : ℕ) (cs : List FileCall) (xs : List Answer) (u : Table) (S : Sound u) (C : Checklist (held u) n)
    (sends : (i : ℕ) → 1 ≤ i → i ≤ n → marked (held u) (sent i) ≡ been_sent i cs xs)
    (skips : (i : ℕ) → 1 ≤ i → i ≤ n → marked (held u) (skipped i) ≡ skip_standing i cs xs) where
  files : files_of (held u) ≡ some n
  files = of-checklist (held u) n C

  abbrev same : AllClear (held u) n ↔ NoneMissing n cs xs
  same = clear_none n cs xs (held u) sends skips

  complete-none : (x : CompleteAnswer) → CompleteEnds u x → (x ≡ Ok true) ↔ NoneMissing n cs xs
  complete-none x E = (
    λ e. (let w = complete-clear u x e E in
        let q : w.0 ≡ n = some-injective w.0 n (sym w.2 ∙ files) in
        same.0 (subst (AllClear (held u)) q w.3)),
    λ g. clear-complete u x n S files (same.1 g) E,
  )

  empty-none :
      (before : List ℕ) (x : ListAnswer) (after : List ℕ) → MissingEnds u before x after
      → (x ≡ Ok 0) ↔ NoneMissing n cs xs
  empty-none before x after E = (
    λ e. same.0 (count-clear u before after n files (counted u before x after 0 e E)),
    λ g. clear-count u before x after n S files (same.1 g) E,
  )

  list-files :
      (before after : List ℕ) (k : ℕ) → MissingEnds u before (Ok k) after
      → (is : List ℕ) × (length is ≡ k) × (after ≡ is ++ drop k before) × Lists is (MissingFile n cs xs)
  list-files before after k E =
      let c = counted u before (Ok k) after k refl E in
      let w = missing-same n cs xs (held u) sends skips files in (
        c.written,
        c.many,
        c.stand,
        record {
          ascending = c.lists.ascending;
          exactly = λ i. (λ m. (w i).0 ((c.lists.exactly i).0 m), λ m. (c.lists.exactly i).1 ((w i).1 m));
        },
      )

-- A list that begins with the opening begins with a step that opens.
opening-first :
    (n : ℕ) (cs : List FileCall) {t u : Table} {ds : List Call} {xs ys : List Answer} → ds ≡ deposit_calls n cs
    → ys ≡ accepted ∷ xs → Trace t ds ys u → (v : Table) × Opened n v × Trace v (file_calls cs) xs u
opening-first n cs e a stop = (let z : Differ = cc in absurd (omega arith))
opening-first n cs {t} {u} {ds} {xs} e a (call {u = v} {c = d} {x = x} {cs = es} {xs = zs} step rest) =
    let q : d ≡ checklist (opening n) = cc in
    let r : es ≡ file_calls cs = cc in
    let p : x ≡ accepted = cc in
    let o : zs ≡ xs = cc in (
      v,
      open_step n q p step,
      subst (λ (y : List Answer). Trace v (file_calls cs) y u) o
          (subst (λ (k : List Call). Trace v k zs u) r rest),
    )

asked-files : (n : ℕ) → first_no (open_questions n) ≡ none → (1 ≤ n) × (n ≤ most_files)
asked-files n e =
    let a = (first_no-none (asks 21 (leb 1 n && leb n most_files)) [] e).0 in
    (leb-le 1 n (and_l (leb 1 n) _ a), leb-le n most_files (and_r (leb 1 n) _ a))

-- Request #106 over sequences. The opening leaves a checklist in which no mark stands. A call on a file leaves one of
-- as many files, with the marks changed as its words say if it was accepted, and as they were if not (`file-marked`).
-- So by induction the marks that stand are those that the calls and their answers tell (`trace-stands`), and off the
-- marks complete and the list of files are read (`complete-iff`, `missing-same`).
pub deposit :
    (t : Table) (n : ℕ) (cs : List FileCall) (xs : List Answer) (u : Table)
    → Trace t (deposit_calls n cs) (accepted ∷ xs) u → Deposit n cs xs u
deposit t n cs xs u T =
    let w = opening-first n cs refl refl T in
    let v = w.0 in
    let O = w.1 in
    let l = asked-files n O.asked in
    let C : Checklist (held v) n =
    subst (λ (D : Pages). Checklist D n) (sym O.holds) (opened-checklist n l.0 l.1) in
    let none_yet : (a : ℕ) → is_mark n a ≡ true → marked (held v) a ≡ false =
    λ a m. ap (λ (D : Pages). marked D a) O.holds ∙ opened-unmarked n l.0 l.1 a m in
    let z = trace-stands n cs refl O.sound C w.2 in
    let A = trace-agrees O.sound w.2 in
    let sends : (i : ℕ) → 1 ≤ i → i ≤ n → marked (held u) (sent i) ≡ been_sent i cs xs =
    λ i k h. z.sends i k h
    ∙ ap (λ (b : Bool). after_calls (sent_by i) b cs xs) (none_yet (sent i) (sent-mark n i k h)) in
    let skips : (i : ℕ) → 1 ≤ i → i ≤ n → marked (held u) (skipped i) ≡ skip_standing i cs xs =
    λ i k h. z.skips i k h
    ∙ ap (λ (b : Bool). after_calls (standing_by i) b cs xs) (none_yet (skipped i) (skipped-mark n i k h)) in
    record {
      answered = A.told ∙ ap (λ (D : Pages). calls_answers document D (file_calls cs)) O.holds;
      slots = A.kept ∙ ap (λ (D : Pages). calls_after document D (file_calls cs)) O.holds;
      sound = A.sound;
      files = of-checklist (held u) n z.list;
      sent_marks = sends;
      skip_marks = skips;
      complete = λ M adm. (let f = complete-iff (held u) n z.list M adm in
          let g = clear_none n cs xs (held u) sends skips in
          (λ y. g.0 (f.0 y), λ y. f.1 (g.1 y)));
      complete_answer = complete-none n cs xs u A.sound z.list sends skips;
      empty_answer = empty-none n cs xs u A.sound z.list sends skips;
      list_answer = list-files n cs xs u A.sound z.list sends skips;
    }

-- Whatever calls came before the opening, other openings among them: what was made of them plays no part.
trace-split :
    (bs : List Call) (ys : List Answer) {t u : Table} {es ds : List Call} {ws zs : List Answer} → es ≡ bs ++ ds
    → ws ≡ ys ++ zs → length ys ≡ length bs → Trace t es ws u → (v : Table) × Trace v ds zs u
trace-split [] [] {t} {u} {es} {ds} {ws} {zs} e a l T =
    (t, subst (λ (k : List Call). Trace t k zs u) e (subst (λ (y : List Answer). Trace t es y u) a T))
trace-split [] (y ∷ ys) e a l T = absurd (omega (arith, l))
trace-split (b ∷ bs) [] e a l T = absurd (omega (arith, l))
trace-split (b ∷ bs) (y ∷ ys) e a l stop = (let z : Differ = cc in absurd (omega arith))
trace-split (b ∷ bs) (y ∷ ys) {ds = ds} {zs = zs} e a l (call {cs = es} {xs = ws} step rest) =
    let q : es ≡ bs ++ ds = cc in
    let r : ws ≡ ys ++ zs = cc in
    trace-split bs ys q r (omega (arith, l)) rest

pub deposit-after :
    (t : Table) (bs : List Call) (ys : List Answer) (n : ℕ) (cs : List FileCall) (xs : List Answer) (u : Table)
    → length ys ≡ length bs → Trace t (bs ++ deposit_calls n cs) (ys ++ (accepted ∷ xs)) u → Deposit n cs xs u
deposit-after t bs ys n cs xs u l T =
    let w = trace-split bs ys {ds = deposit_calls n cs} {zs = accepted ∷ xs} refl refl l T in
    deposit w.0 n cs xs u w.1

-- An opening that is refused leaves the empty table, which is no checklist: every call on a file meets 15 then, and
-- leaves the empty table again.
open-refused :
    {u : Table} {y : ChangeAnswer} (n k : ℕ) → book_change y ≡ refused k → OpenEnds n y u → u ≡ empty_table
open-refused n k a (list.refused f r) = refl
open-refused n k a (list.accepted u r Z h U) = (let z : Differ = cc in absurd (omega arith))

refuse-step :
    {t u : Table} {d : Call} {x : Answer} (n k : ℕ) → d ≡ checklist (opening n) → x ≡ refused k → Step t d x u
    → u ≡ empty_table
refuse-step n k e a S =
    let w = opening-step n e S in
    open-refused n k (sym w.1 ∙ a) w.2

all-15 :
    (cs : List FileCall) {t u : Table} {ds : List Call} {xs : List Answer} → ds ≡ file_calls cs → t ≡ empty_table
    → Trace t ds xs u → (u ≡ empty_table) × (xs ≡ map (λ c. refused 15) cs)
all-15 [] e q stop = (q, refl)
all-15 [] e q (call step rest) = (let z : Differ = cc in absurd (omega arith))
all-15 (c ∷ cs) e q stop = (let z : Differ = cc in absurd (omega arith))
all-15 (c ∷ cs) {t} e q (call {c = d} {cs = ds} step rest) =
    let r : d ≡ checklist (of_file c) = cc in
    let o : ds ≡ file_calls cs = cc in
    let w = file-step c r step in
    let none-there = ap (λ (s : Table). files_of (held s)) q ∙ ap files_of empty-held ∙ empty-no-files in
    let b = no-checklist-file t (λ S. none-there) c w.0 _ w.2 in
    let z = all-15 cs o (b.1 ∙ q) rest in
    (z.0, ap₂ ◌∷◌ (w.1 ∙ ap book_change b.0) z.1)

refused-first :
    (n k : ℕ) (cs : List FileCall) {t u : Table} {ds : List Call} {xs ys : List Answer} → ds ≡ deposit_calls n cs
    → ys ≡ refused k ∷ xs → Trace t ds ys u → (u ≡ empty_table) × (xs ≡ map (λ c. refused 15) cs)
refused-first n k cs e a stop = (let z : Differ = cc in absurd (omega arith))
refused-first n k cs {xs = xs} e a (call {c = d} {x = x} {cs = es} {xs = zs} step rest) =
    let q : d ≡ checklist (opening n) = cc in
    let r : es ≡ file_calls cs = cc in
    let p : x ≡ refused k = cc in
    let o : zs ≡ xs = cc in
    let w = all-15 cs r (refuse-step n k q p step) rest in
    (w.0, sym o ∙ w.1)

pub refused-opening :
    (t : Table) (n k : ℕ) (cs : List FileCall) (xs : List Answer) (u : Table)
    → Trace t (deposit_calls n cs) (refused k ∷ xs) u → (u ≡ empty_table) × (xs ≡ map (λ c. refused 15) cs)
refused-opening t n k cs xs u T = refused-first n k cs refl refl T
