-- Of any table, however it came about: the list of files is empty exactly if complete is in; and a table that is no
-- checklist, as one with a muted rule, meets 15, whichever call it is handed to, and nothing changes. Assumes nothing.
use Rattle.std.specs.Prelude.{Ok, Err}
use Prim.Native.Nat.{ℕ, ◌≤◌}
use native.Mathlib.Omega.{arith}
use mathlib.Core.Path.{◌≡◌, refl, sym, ◌∙◌, ap, subst}
use mathlib.Core.Logic.{◌↔◌}
use mathlib.Core.Bool.{Bool, true, false, true≢false}
use mathlib.Core.List.Memᴰ
use mathlib.Core.List.{List, [], ◌∷◌, ◌++◌}
use mathlib.Core.Option.{Option, none, some, some-injective, none-ne-some}
use lib.ListN.{length, get_or, drop}
use Rattle.theory.specs.Lists.{◌∈◌, Lists}
use Rattle.theory.specs.Rules.{Page, Pages, rule_on}
use Rattle.theory.specs.Questions.{first_no, asks, is_some}
use Rattle.theory.specs.Book.{empty}
use Rattle.theory.specs.Limits.{document}
use Rattle.theory.proofs.Lists.{clash, unless}
use Rattle.theory.proofs.Pages.{all-at}
use Rattle.theory.proofs.Questions.{first_no-yes, first_no-here, first_no-none}
use Rattle.table.specs.declared.Table.{Table}
use Rattle.table.specs.Sound.{Sound}
use Rattle.table.proofs.Members.{all_alike}
use Rattle.refusals.specs.declared.Refusal.TheVariants.{TableUnsound}
use Rattle.calls.specs.Answers.{ChangeAnswer, ListAnswer}
use Rattle.calls.specs.Ends as contract
use Rattle.calls.specs.Ends.{held}
use Rattle.checklist_frame.specs.Frame.{good, frame, on_list, files_of}
use Rattle.checklist_meaning.specs.Questions.{FileCall, checklist_questions, lacks}
use Rattle.checklist_meaning.specs.Ends as list
use Rattle.checklist_meaning.specs.Ends.{FileEnds, MissingEnds, CompleteAnswer, CompleteEnds, tell_complete}
use Rattle.checklist_frame.proofs.Frames.{on-list-between, between-on-list, checklist-of, no-files, muted-no-files}
use Rattle.checklist_meaning.proofs.Determined.{file-determined, missing-determined, complete-determined}
use Rattle.checklist_meaning.proofs.Model.{Clear, lacks-iff, complete-iff}

-- What two cases of an answer would say of numbers, were they one.
abbrev Differ : Type 0
Differ = ◌≡◌ {A = ℕ} 0 1

-- The list of files and complete, of any table: every file of the list is sent and has no skip standing.
abbrev pub AllClear : Pages → ℕ → Type 0
AllClear B n = (i : ℕ) → 1 ≤ i → i ≤ n → Clear B i

some_of : (o : Option ℕ) → is_some o ≡ true → (n : ℕ) × (o ≡ some n)
some_of none t = absurd (true≢false (sym t))
some_of (some n) t = (n, refl)

list-asked : (B : Pages) (n : ℕ) → files_of B ≡ some n → first_no (checklist_questions B) ≡ none
unfolding first_no
list-asked B n e = first_no-yes (asks 15 (is_some (files_of B))) [] (ap is_some e)

-- The files that the list has.
abbrev pub Missing : Pages → ℕ → Type 0
Missing B i = (on_list (files_of B) i ≡ true) × (lacks B i ≡ true)

missing-none : (B : Pages) (n : ℕ) → files_of B ≡ some n → AllClear B n → (i : ℕ) → Missing B i → ⊥
missing-none B n e f i m =
    let l = on-list-between n i (ap (λ (o : Option ℕ). on_list o i) (sym e) ∙ m.0) in
    clash m.1 ((lacks-iff B i).1 (f i l.0 l.1))

none-missing : (B : Pages) (n : ℕ) → files_of B ≡ some n → ((i : ℕ) → Missing B i → ⊥) → AllClear B n
none-missing B n e f i l h = (lacks-iff B i).0
    (unless (lacks B i) (λ t. f i (ap (λ (o : Option ℕ). on_list o i) e ∙ between-on-list n i l h, t)))

no-entries : (is : List ℕ) (Q : ℕ → Type 0) → Lists is Q → ((i : ℕ) → Q i → ⊥) → is ≡ []
no-entries [] Q L f = refl
no-entries (i ∷ is) Q L f = absurd (f i ((L.exactly i).0 (Memᴰ.head refl)))

nothing-in : (is : List ℕ) → length is ≡ 0 → is ≡ []
nothing-in [] e = refl
nothing-in (i ∷ is) e = absurd (omega arith)

-- What a count says, and when it is 0.

pub record Counted (t : Table) (before after : List ℕ) (k : ℕ) : Type 0 where
  pub sound : Sound t
  pub files : (n : ℕ) × (files_of (held t) ≡ some n)
  pub written : List ℕ
  pub many : length written ≡ k
  pub stand : after ≡ written ++ drop k before
  pub lists : Lists written (Missing (held t))

pub counted :
    (t : Table) (before : List ℕ) (x : ListAnswer) (after : List ℕ) (k : ℕ) → x ≡ Ok k
    → MissingEnds t before x after → Counted t before after k
counted t before x after k e (contract.unsound n) = (let z : Differ = cc in absurd (omega arith))
counted t before x after k e (contract.refused f S a) = (let z : Differ = cc in absurd (omega arith))
counted t before x after k e (contract.short M is S a A L l) = (let z : Differ = cc in absurd (omega arith))
counted t before x after k e (contract.accepted M is S a A L l) =
    let q : length is ≡ k = cc in
    record {
      sound = S;
      files = some_of (files_of (held t)) (first_no-none (asks 15 (is_some (files_of (held t)))) [] a).0;
      written = is;
      many = q;
      stand = ap (λ (j : ℕ). is ++ drop j before) q;
      lists = L;
    }

pub count-clear :
    (t : Table) (before after : List ℕ) (n : ℕ) → files_of (held t) ≡ some n → Counted t before after 0
    → AllClear (held t) n
count-clear t before after n e c = none-missing (held t) n e (λ i m. Memᴰ.not-nil
    (subst (λ (is : List ℕ). i ∈ is) (nothing-in c.written c.many) ((c.lists.exactly i).1 m)))

pub clear-count :
    (t : Table) (before : List ℕ) (x : ListAnswer) (after : List ℕ) (n : ℕ) → Sound t → files_of (held t) ≡ some n
    → AllClear (held t) n → MissingEnds t before x after → x ≡ Ok 0
clear-count t before x after n S e f (contract.unsound g) = absurd (g S)
clear-count t before x after n S e f (contract.refused g T a) =
    absurd (none-ne-some _ (sym (list-asked (held t) n e) ∙ a))
clear-count t before x after n S e f (contract.short M is T a A L l) =
    let q = ap length (no-entries is (Missing (held t)) L (missing-none (held t) n e f)) in
    absurd (omega arith)
clear-count t before x after n S e f (contract.accepted M is T a A L l) =
    ap Ok (ap length (no-entries is (Missing (held t)) L (missing-none (held t) n e f)))

-- What complete says.

tells-complete : (b : Bool) → tell_complete b ≡ Ok true → b ≡ true
tells-complete true e = refl
tells-complete false e = (let z : Differ = cc in absurd (omega arith))

pub complete-clear :
    (t : Table) (y : CompleteAnswer) → y ≡ Ok true → CompleteEnds t y
    → (n : ℕ) × Sound t × (files_of (held t) ≡ some n) × AllClear (held t) n
complete-clear t y e (list.unsound f) = (let z : Differ = cc in absurd (omega arith))
complete-clear t y e (list.accepted M n S a A) =
    (n, S, a, (complete-iff (held t) n (checklist-of (held t) n a) M A).0 (tells-complete (M (good n)) e))

pub clear-complete :
    (t : Table) (y : CompleteAnswer) (n : ℕ) → Sound t → files_of (held t) ≡ some n → AllClear (held t) n
    → CompleteEnds t y → y ≡ Ok true
clear-complete t y n S e f (list.unsound g) = absurd (none-ne-some n (sym (g S) ∙ e))
clear-complete t y n S e f (list.accepted M m T a A) =
    let q : n ≡ m = some-injective n m (sym e ∙ a) in
    ap tell_complete
    ((complete-iff (held t) m (checklist-of (held t) m a) M A).1 (subst (AllClear (held t)) q f))

-- The list of files is empty exactly if complete is in.
pub empty-iff-complete :
    (t : Table) (before : List ℕ) (x : ListAnswer) (after : List ℕ) (y : CompleteAnswer)
    → MissingEnds t before x after → CompleteEnds t y → (x ≡ Ok 0) ↔ (y ≡ Ok true)
empty-iff-complete t before x after y E F = (
  λ e. (let c = counted t before x after 0 e E in
      let n = c.files in
      clear-complete t y n.0 c.sound n.1 (count-clear t before after n.0 n.1 c) F),
  λ e. (let w = complete-clear t y e F in clear-count t before x after w.0 w.1 w.2 w.3 E),
)

-- A table that is not sound, or else is no checklist, meets 15: a call on a file hands it back, the list of files
-- writes nothing, complete is not answered.
module _ (t : Table) (none-there : Sound t → files_of (held t) ≡ none) where
  pub no-checklist-file :
      (c : FileCall) (x : ChangeAnswer) (u : Table) → FileEnds t c x u → (x ≡ Err TableUnsound) × (u ≡ t)
  no-checklist-file c x u E = file-determined t c x (Err TableUnsound) u t E (list.unsound none-there)

  pub no-checklist-complete : (x : CompleteAnswer) → CompleteEnds t x → x ≡ Err TableUnsound
  no-checklist-complete x E = complete-determined t x (Err TableUnsound) E (list.unsound none-there)

  pub no-checklist-list :
      (before : List ℕ) (x : ListAnswer) (after : List ℕ) → MissingEnds t before x after
      → (x ≡ Err TableUnsound) × (after ≡ before)
  no-checklist-list before x after (contract.unsound n) = (refl, refl)
  no-checklist-list before x after (contract.refused f S e) =
      missing-determined t before x (Err TableUnsound) after before (contract.refused f S e)
      (contract.refused TableUnsound S (first_no-here (asks 15 _) [] (ap is_some (none-there S))))
  no-checklist-list before x after (contract.short M is S a A L l) =
      absurd (none-ne-some 15 (sym a ∙ first_no-here (asks 15 _) [] (ap is_some (none-there S))))
  no-checklist-list before x after (contract.accepted M is S a A L l) =
      absurd (none-ne-some 15 (sym a ∙ first_no-here (asks 15 _) [] (ap is_some (none-there S))))

-- So each call of a checklist meets 15.
pub record Meets15 (t : Table) : Type 0 where
  pub file :
      (c : FileCall) (x : ChangeAnswer) (u : Table) → FileEnds t c x u → (x ≡ Err TableUnsound) × (u ≡ t)
  pub complete : (x : CompleteAnswer) → CompleteEnds t x → x ≡ Err TableUnsound
  pub list :
      (before : List ℕ) (x : ListAnswer) (after : List ℕ) → MissingEnds t before x after
      → (x ≡ Err TableUnsound) × (after ≡ before)

-- A checklist with a muted rule is none (request #108): where a rule of the table is muted, each call meets 15.
pub muted-no-checklist :
    (t : Table) (s : ℕ) (p : Page) → get_or (held t) s none ≡ some p → p.muted ≡ true → Meets15 t
muted-no-checklist t s p e m =
    let none-there : Sound t → files_of (held t) ≡ none = λ S. muted-no-files (held t) s p e m in
    record {
      file = no-checklist-file t none-there;
      complete = no-checklist-complete t none-there;
      list = no-checklist-list t none-there;
    }

-- The empty table is no checklist: it has no frame.
pub empty-no-files : files_of (empty document) ≡ none
empty-no-files = no-files (empty document)
    (λ n C. none-ne-some (frame 0) (sym (all-at (empty document) 0
    ∙ ap rule_on (all_alike document.slots 0 none)) ∙ C.frames 0 (omega arith)))
