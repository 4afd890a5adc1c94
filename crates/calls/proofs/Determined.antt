-- Each contract determines its result: two results allowed for the same input are equal. Assumes nothing.
use Rattle.std.specs.Prelude.{Result, Ok, Err}
use Prim.Native.Nat.{ℕ}
use native.Mathlib.Omega.{arith}
use mathlib.Core.Path.{◌≡◌, refl, sym, ◌∙◌, ap, ap₂, subst, fun_ext}
use mathlib.Core.Bool.{Bool, true, not}
use mathlib.Core.List.{List, [], ◌++◌, map}
use mathlib.Core.Option.{none, some, some-injective, none-ne-some}
use lib.Dec.{eqb}
use lib.ListN.{length, drop, set}
use Rattle.theory.specs.Lists.{every}
use Rattle.theory.specs.Rules.{Pages, all, active, new_page}
use Rattle.theory.specs.Rules as theory
use Rattle.theory.specs.Models.{AtomSet, Admissible}
use Rattle.theory.specs.Questions.{Question, first_no, add_questions, slot_questions, replace_questions}
use Rattle.theory.specs.Questions.{rule_questions, atom_questions, reason_questions}
use Rattle.theory.specs.Limits.{document}
use Rattle.theory.proofs.Lists.{every-at, not-true, clash, eqb_of}
use Rattle.theory.proofs.Questions.{first_no-asked}
use Rattle.theory.proofs.Explanations.{lists-unique, reason-unique}
use Rattle.theory.proofs.Labels.{one-model, same-label}
use Rattle.table.specs.declared.Table.{Table}
use Rattle.table.specs.Labels.{label_at}
use Rattle.table.specs.Sound.{Sound}
use Rattle.refusals.specs.declared.Refusal.{Refusal}
use Rattle.refusals.specs.declared.Refusal.TheVariants.{BufferTooShort}
use Rattle.questions.specs.Asked.{first_no_told}
use Rattle.calls.specs.Answers.{AddAnswer}
use Rattle.calls.specs.Answers.{ChangeAnswer}
use Rattle.calls.specs.Answers.{LabelAnswer}
use Rattle.calls.specs.Answers.{SpoilerAnswer}
use Rattle.calls.specs.Answers.{ListAnswer}
use Rattle.file_blocks.specs.Questions.{file_questions}
use Rattle.refusals.specs.Refusals.{number_of}
use Rattle.calls.specs.Answers.{tell_label, tell_page}
use Rattle.calls.specs.Ends as contract
use Rattle.calls.specs.Ends.{held, AddEnds, ChangeEnds, RemoveEnds, ReplaceEnds, MuteEnds, LabelEnds}
use Rattle.calls.specs.Ends.{SpoilerEnds, ListEnds}
use Rattle.calls.specs.Ends.{JustificationsEnd, ConsequencesEnd, RepercussionsEnd, ReasonEnds}
use Rattle.calls.specs.Ends.{SaveEnds, LoadEnds}
use Rattle.calls.proofs.OneTable.{table-unique}
use Rattle.refusals.proofs.Refusals.{refusal_of, refusal-number}

-- A refusal by questions that do not ask 11 is determined by its number.
pub refusal-unique :
    (qs : List Question) → every (λ k. not (eqb k 11)) (map (λ q. q.number) qs) ≡ true → (f g : Refusal)
    → first_no qs ≡ some (number_of f) → first_no qs ≡ some (number_of g) → f ≡ g
refusal-unique qs t f g d e =
    sym (refusal-number f (not-11 f d)) ∙ ap refusal_of (some-injective _ _ (sym d ∙ e))
    ∙ refusal-number g (not-11 g e)
  where
    not-11 : (h : Refusal) → first_no qs ≡ some (number_of h) → number_of h ≡ 11 → ⊥
    not-11 h u q = clash (eqb_of _ _ q)
        (not-true _ (every-at
        (λ k. not (eqb k 11)) (map (λ q. q.number) qs) t (number_of h) (first_no-asked qs (number_of h) u)))

-- Refused and accepted at once cannot be.
pub both : (qs : List Question) (k : ℕ) → first_no qs ≡ some k → first_no qs ≡ none → ⊥
both qs k d e = none-ne-some k (sym e ∙ d)

-- The answer to questions 1 to 4 of a rule is determined by its contract.
pub ask-rule-determined :
    (r : theory.Rule) (x y : Result (Unit {0}) Refusal) → first_no_told x ≡ first_no (rule_questions document r)
    → first_no_told y ≡ first_no (rule_questions document r) → x ≡ y
unfolding every
ask-rule-determined r (Ok u) (Ok v) d e = refl
ask-rule-determined r (Ok u) (Err g) d e = absurd (both (rule_questions document r) _ (sym e) (sym d))
ask-rule-determined r (Err f) (Ok v) d e = absurd (both (rule_questions document r) _ (sym d) (sym e))
ask-rule-determined r (Err f) (Err g) d e =
    ap Err (refusal-unique (rule_questions document r) refl f g (sym d) (sym e))

-- The admissible model of a sound table's unmuted rules is one set.
pub same-model :
    (t : Table) → Sound t → (M N : AtomSet) → Admissible (active (held t)) M → Admissible (active (held t)) N → M ≡ N
same-model t S M N A B = fun_ext (one-model (held t) S.rules.acyclic M N A B)

-- Two additions of the same rule to the same table. Refused, both name the first question answered no; accepted, both
-- take the lowest free slot and leave the same pages, so the same table (`table-unique`). One of each cannot be.
pub add-determined :
    (t : Table) (r : theory.Rule) (x y : AddAnswer) (u v : Table) → AddEnds t r x u → AddEnds t r y v
    → (x ≡ y) × (u ≡ v)
unfolding every
add-determined t r x y u v (contract.unsound n) (contract.unsound m) = (refl, refl)
add-determined t r x y u v (contract.unsound n) (contract.refused g S e) = absurd (n S)
add-determined t r x y u v (contract.unsound n) (contract.accepted s w S e l Z h U) = absurd (n S)
add-determined t r x y u v (contract.refused f S d) (contract.unsound n) = absurd (n S)
add-determined t r x y u v (contract.refused f S d) (contract.refused g T e) =
    (ap Err (refusal-unique (add_questions document (all (held t)) r) refl f g d e), refl)
add-determined t r x y u v (contract.refused f S d) (contract.accepted s w T e l Z h U) = absurd (both _ _ d e)
add-determined t r x y u v (contract.accepted s w S d l Z h U) (contract.unsound n) = absurd (n S)
add-determined t r x y u v (contract.accepted s w S d l Z h U) (contract.refused g T e) = absurd (both _ _ e d)
add-determined t r x y u v (contract.accepted s w S d l Z h U) (contract.accepted q z T e k Y i W) =
    let same : s.0 ≡ q.0 = some-injective _ _ (sym l ∙ k) in
    let slot : s ≡ q = λ i. record { 0 = same i } in
    let rules = h ∙ ap (λ (n : ℕ). set (held t) n (some (new_page r))) same ∙ sym i in
    (ap Ok slot, table-unique w z Z Y U W rules)

-- A call that answers that it was accepted, where its questions do not ask 11: the refusal is that of the first
-- question answered no, and the pages afterwards determine the table.
change-determined :
    (qs : List Question) → every (λ k. not (eqb k 11)) (map (λ q. q.number) qs) ≡ true → (B : Pages) (t : Table)
    (x y : ChangeAnswer) (u v : Table) → ChangeEnds qs B t x u → ChangeEnds qs B t y v → (x ≡ y) × (u ≡ v)
change-determined qs other B t x y u v (contract.unsound n) (contract.unsound m) = (refl, refl)
change-determined qs other B t x y u v (contract.unsound n) (contract.refused g S e) = absurd (n S)
change-determined qs other B t x y u v (contract.unsound n) (contract.accepted w S e Z h U) = absurd (n S)
change-determined qs other B t x y u v (contract.refused f S d) (contract.unsound n) = absurd (n S)
change-determined qs other B t x y u v (contract.refused f S d) (contract.refused g T e) =
    (ap Err (refusal-unique qs other f g d e), refl)
change-determined qs other B t x y u v (contract.refused f S d) (contract.accepted w T e Z h U) = absurd (both _ _ d e)
change-determined qs other B t x y u v (contract.accepted w S d Z h U) (contract.unsound n) = absurd (n S)
change-determined qs other B t x y u v (contract.accepted w S d Z h U) (contract.refused g T e) = absurd (both _ _ e d)
change-determined qs other B t x y u v (contract.accepted w S d Z h U) (contract.accepted z T e Y i W) =
    (refl, table-unique w z Z Y U W (h ∙ sym i))

pub remove-determined :
    (t : Table) (s : ℕ) (x y : ChangeAnswer) (u v : Table) → RemoveEnds t s x u → RemoveEnds t s y v
    → (x ≡ y) × (u ≡ v)
unfolding every
remove-determined t s = change-determined (slot_questions document (all (held t)) s) refl _ t

pub replace-determined :
    (t : Table) (s : ℕ) (r : theory.Rule) (x y : ChangeAnswer) (u v : Table) → ReplaceEnds t s r x u
    → ReplaceEnds t s r y v → (x ≡ y) × (u ≡ v)
unfolding every
replace-determined t s r = change-determined (replace_questions document (all (held t)) s r) refl _ t

pub mute-determined :
    (t : Table) (s : ℕ) (m : Bool) (x y : ChangeAnswer) (u v : Table) → MuteEnds t s m x u → MuteEnds t s m y v
    → (x ≡ y) × (u ≡ v)
unfolding every
mute-determined t s m = change-determined (slot_questions document (all (held t)) s) refl _ t

-- The rules of a sound table have one admissible model, and an atom one label in it.
pub label-determined : (t : Table) (a : ℕ) (x y : LabelAnswer) → LabelEnds t a x → LabelEnds t a y → x ≡ y
unfolding every
label-determined t a x y (contract.unsound n) (contract.unsound m) = refl
label-determined t a x y (contract.unsound n) (contract.refused g S e) = absurd (n S)
label-determined t a x y (contract.unsound n) (contract.accepted M k S e A L) = absurd (n S)
label-determined t a x y (contract.refused f S d) (contract.unsound n) = absurd (n S)
label-determined t a x y (contract.refused f S d) (contract.refused g T e) =
    ap Err (refusal-unique (atom_questions document a) refl f g d e)
label-determined t a x y (contract.refused f S d) (contract.accepted M k T e A L) = absurd (both _ _ d e)
label-determined t a x y (contract.accepted M k S d A L) (contract.unsound n) = absurd (n S)
label-determined t a x y (contract.accepted M k S d A L) (contract.refused g T e) = absurd (both _ _ e d)
label-determined t a x y (contract.accepted M k S d A L) (contract.accepted N j T e B K) =
    ap tell_label (same-label (held t) M N a k j S.rules.acyclic A B L K)

-- The page of the slot is one, and so is the model in which its rule is read.
pub spoiler-determined : (t : Table) (s : ℕ) (x y : SpoilerAnswer) → SpoilerEnds t s x → SpoilerEnds t s y → x ≡ y
unfolding every
spoiler-determined t s x y (contract.unsound n) (contract.unsound m) = refl
spoiler-determined t s x y (contract.unsound n) (contract.refused g S e) = absurd (n S)
spoiler-determined t s x y (contract.unsound n) (contract.accepted M r S e h A) = absurd (n S)
spoiler-determined t s x y (contract.refused f S d) (contract.unsound n) = absurd (n S)
spoiler-determined t s x y (contract.refused f S d) (contract.refused g T e) =
    ap Err (refusal-unique (slot_questions document (all (held t)) s) refl f g d e)
spoiler-determined t s x y (contract.refused f S d) (contract.accepted M r T e h A) = absurd (both _ _ d e)
spoiler-determined t s x y (contract.accepted M r S d h A) (contract.unsound n) = absurd (n S)
spoiler-determined t s x y (contract.accepted M r S d h A) (contract.refused g T e) = absurd (both _ _ e d)
spoiler-determined t s x y (contract.accepted M r S d h A) (contract.accepted N q T e i B) =
    ap₂ tell_page (same-model t S M N A B) (some-injective r q (sym h ∙ i))

-- A call that writes a list, where its questions do not ask 11 and the list is determined by the model: then so is its
-- length, which tells whether the buffer is too short, and every entry of the buffer.
module _ (qs : List Question) (other : every (λ k. not (eqb k 11)) (map (λ q. q.number) qs) ≡ true)
    (Is : AtomSet → List ℕ → Type 0) (alone : (M : AtomSet) (xs ys : List ℕ) → Is M xs → Is M ys → xs ≡ ys) where
  same-list :
      (t : Table) (M N : AtomSet) (xs ys : List ℕ) → Sound t → Admissible (active (held t)) M
      → Admissible (active (held t)) N → Is M xs → Is N ys → xs ≡ ys
  same-list t M N xs ys S A B X Y =
      alone N xs ys (subst (λ (O : AtomSet). Is O xs) (same-model t S M N A B) X) Y

  pub list-determined :
      (t : Table) (b : List ℕ) (x y : ListAnswer) (c d : List ℕ) → ListEnds qs Is t b x c → ListEnds qs Is t b y d
      → (x ≡ y) × (c ≡ d)
  list-determined t b x y c d (contract.unsound n) (contract.unsound m) = (refl, refl)
  list-determined t b x y c d (contract.unsound n) (contract.refused g S e) = absurd (n S)
  list-determined t b x y c d (contract.unsound n) (contract.short M xs S e A X k) = absurd (n S)
  list-determined t b x y c d (contract.unsound n) (contract.accepted M xs S e A X k) = absurd (n S)
  list-determined t b x y c d (contract.refused f S e) (contract.unsound n) = absurd (n S)
  list-determined t b x y c d (contract.refused f S e) (contract.refused g T h) =
      (ap Err (refusal-unique qs other f g e h), refl)
  list-determined t b x y c d (contract.refused f S e) (contract.short M xs T h A X k) = absurd (both _ _ e h)
  list-determined t b x y c d (contract.refused f S e) (contract.accepted M xs T h A X k) = absurd (both _ _ e h)
  list-determined t b x y c d (contract.short M xs S e A X k) (contract.unsound n) = absurd (n S)
  list-determined t b x y c d (contract.short M xs S e A X k) (contract.refused g T h) = absurd (both _ _ h e)
  list-determined t b x y c d (contract.short M xs S e A X k) (contract.short N ys T h B Y j) =
      (ap (λ (zs : List ℕ). Err (BufferTooShort (length zs))) (same-list t M N xs ys S A B X Y), refl)
  list-determined t b x y c d (contract.short M xs S e A X k) (contract.accepted N ys T h B Y j) =
      absurd (omega (arith, ap length (same-list t M N xs ys S A B X Y)))
  list-determined t b x y c d (contract.accepted M xs S e A X k) (contract.unsound n) = absurd (n S)
  list-determined t b x y c d (contract.accepted M xs S e A X k) (contract.refused g T h) = absurd (both _ _ h e)
  list-determined t b x y c d (contract.accepted M xs S e A X k) (contract.short N ys T h B Y j) =
      absurd (omega (arith, ap length (same-list t M N xs ys S A B X Y)))
  list-determined t b x y c d (contract.accepted M xs S e A X k) (contract.accepted N ys T h B Y j) =
      let same = same-list t M N xs ys S A B X Y in
      (ap (λ (zs : List ℕ). Ok (length zs)) same, ap (λ (zs : List ℕ). zs ++ drop (length zs) b) same)

-- Each of the four: a set is written ascending in one way, a reason by depth and then by number in one way.

pub justifications-determined :
    (t : Table) (a : ℕ) (b : List ℕ) (x y : ListAnswer) (c d : List ℕ) → JustificationsEnd t a b x c
    → JustificationsEnd t a b y d → (x ≡ y) × (c ≡ d)
unfolding every
justifications-determined t a =
    list-determined (atom_questions document a) refl _ (λ M xs ys X Y. lists-unique xs ys X Y) t

pub consequences-determined :
    (t : Table) (a : ℕ) (b : List ℕ) (x y : ListAnswer) (c d : List ℕ) → ConsequencesEnd t a b x c
    → ConsequencesEnd t a b y d → (x ≡ y) × (c ≡ d)
unfolding every
consequences-determined t a =
    list-determined (atom_questions document a) refl _ (λ M xs ys X Y. lists-unique xs ys X Y) t

pub repercussions-determined :
    (t : Table) (a : ℕ) (b : List ℕ) (x y : ListAnswer) (c d : List ℕ) → RepercussionsEnd t a b x c
    → RepercussionsEnd t a b y d → (x ≡ y) × (c ≡ d)
unfolding every
repercussions-determined t a =
    list-determined (atom_questions document a) refl _ (λ M xs ys X Y. lists-unique xs ys X Y) t

pub reason-determined :
    (t : Table) (a : ℕ) (b : List ℕ) (x y : ListAnswer) (c d : List ℕ) → ReasonEnds t a b x c → ReasonEnds t a b y d
    → (x ≡ y) × (c ≡ d)
unfolding every
reason-determined t a =
    list-determined (reason_questions document a (label_at t.words a)) refl _
    (λ M xs ys X Y. reason-unique (active (held t)) M a xs ys X Y) t

pub save-determined :
    (t : Table) (b : List ℕ) (x y : ListAnswer) (c d : List ℕ) → SaveEnds t b x c → SaveEnds t b y d
    → (x ≡ y) × (c ≡ d)
unfolding every
save-determined t = list-determined [] refl _ (λ M xs ys X Y. X ∙ sym Y) t

-- Bytes that are accepted record one list of pages, and these determine the table.
pub load-determined :
    (bytes : List ℕ) (x y : ChangeAnswer) (u v : Table) → LoadEnds bytes x u → LoadEnds bytes y v → (x ≡ y) × (u ≡ v)
unfolding every
load-determined bytes x y u v (contract.refused f d) (contract.refused g e) =
    (ap Err (refusal-unique (file_questions document bytes) refl f g d e), refl)
load-determined bytes x y u v (contract.refused f d) (contract.accepted w e Z h U) = absurd (both _ _ d e)
load-determined bytes x y u v (contract.accepted w d Z h U) (contract.refused g e) = absurd (both _ _ e d)
load-determined bytes x y u v (contract.accepted w d Z h U) (contract.accepted z e Y i W) =
    (refl, table-unique w z Z Y U W (h ∙ sym i))
