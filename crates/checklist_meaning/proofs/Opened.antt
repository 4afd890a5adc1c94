-- Laws of the frame put rule by rule into free pages: what stands after some of them, and that each rule passes
-- questions 1 to 4. Assumes nothing.
use Prim.Native.Nat.{ℕ, zero, suc, ◌+◌, ◌-◌, ◌≤◌, ◌<◌}
use native.Mathlib.Omega.{arith}
use mathlib.Core.Path.{◌≡◌, refl, sym, ◌∙◌, ap}
use mathlib.Core.Logic.{⊎_elim}
use mathlib.Core.Bool.{true, false}
use mathlib.Core.List.Memᴰ
use mathlib.Core.List.{List, [], ◌∷◌, ◌++◌, map, map-append}
use mathlib.Core.Option.{none, some, none-ne-some}
use lib.Dec.{leb, ltb}
use lib.ListN.{length, length-append, length-map, get_or, set, replicate, get_or-append}
use lib.Seq.{append_snoc, get_or-append-add, get_or_at, set_at}
use Rattle.theory.specs.Lists.{every}
use Rattle.theory.specs.Rules.{Rule, Pages, all, rule_on, new_page, Held, Ascending, entries}
use Rattle.theory.specs.Rules.{kept}
use Rattle.theory.specs.Limits.{document}
use Rattle.theory.specs.Questions.{first_no, rule_questions}
use Rattle.theory.specs.Book.{empty}
use Rattle.theory.proofs.Lists.{and-of, unless, lt-ltb, le-leb, le-or-lt}
use Rattle.theory.proofs.Pages.{all-at, held-page}
use Rattle.theory.proofs.Rules.{held-unique}
use Rattle.theory.proofs.Questions.{first_no-yes}
use Rattle.theory.proofs.Sorting.{ascending-distinct}
use Rattle.theory.proofs.Sameness.{ascending-kept}
use Rattle.table.proofs.Members.{all_alike}
use Rattle.checklist_frame.specs.Frame.{Checklist, most_files, sent, skipped, good, frame, files, is_mark, marked}
use Rattle.checklist_frame.specs.Frame.{unmuted_on}
use Rattle.checklist_frame.proofs.Unmuted.{unmuted-of}
use Rattle.checklist_frame.proofs.Frames.{in_one, frame-head}
use Rattle.checklist_meaning.specs.Book.{opened}
use Rattle.checklist_meaning.proofs.Marks.{marked-at, mark-behind}

-- What the pages hold after the first i rules of the frame.
abbrev pub stage : ℕ → Pages
stage zero = empty document
stage (suc n) = opened document n

-- The slots below i, and the frame's rules that stand there.

slots-to : ℕ → List ℕ
slots-to zero = []
slots-to (suc n) = zero ∷ files n

slots-more : (i : ℕ) → slots-to (suc i) ≡ slots-to i ++ (i ∷ [])
unfolding slots-to files
slots-more zero = refl
slots-more (suc n) = refl

slots_length : (i : ℕ) → length (slots-to i) ≡ i
slots_length zero = unfold slots-to in refl
slots_length (suc i) =
    ap length (slots-more i) ∙ (omega (arith, length-append (slots-to i) (i ∷ []), slots_length i))

front : ℕ → Pages
front i = map (λ s. some (new_page (frame s))) (slots-to i)

front-more : (i : ℕ) → front (suc i) ≡ front i ++ (some (new_page (frame i)) ∷ [])
unfolding front
front-more i =
    ap (map (λ s. some (new_page (frame s)))) (slots-more i)
    ∙ map-append (λ s. some (new_page (frame s))) (slots-to i) (i ∷ [])

front_length : (i : ℕ) → length (front i) ≡ i
unfolding front
front_length i = length-map (slots-to i) (λ s. some (new_page (frame s))) ∙ slots_length i

front-page : (i s : ℕ) → s < i → get_or (front i) s none ≡ some (new_page (frame s))
front-page zero s l = absurd (omega arith)
front-page (suc i) s l =
    ap (λ (B : Pages). get_or B s none) (front-more i) ∙ ⊎_elim
    (λ (k : i ≤ s). (
    let e : i ≡ s = omega arith in
    get_or_at (front i) (some (new_page (frame i))) [] none s (front_length i ∙ e)
    ∙ ap (λ (z : ℕ). some (new_page (frame z))) e))
    (λ (k : s < i).
    get_or-append (front i) (some (new_page (frame i)) ∷ []) none s (omega (arith, front_length i))
    ∙ front-page i s k)
    (le-or-lt i s)

-- The slots behind those are free.
stage-split : (i : ℕ) → stage i ≡ front i ++ replicate (document.slots - i) none
unfolding front slots-to
stage-split zero = refl
stage-split (suc n) = refl

-- The frame's rule of slot i is kept as it is.

pub frame-ascending : (i : ℕ) → Ascending (frame i)
frame-ascending zero = record { positives = tt; negatives = tt }
frame-ascending (suc i) = record {
  positives = (λ y m. omega (arith, in_one y _ m), (λ y m. absurd (Memᴰ.not-nil m), tt));
  negatives = (λ y m. absurd (Memᴰ.not-nil m), tt);
}

pub frame-kept : (i : ℕ) → kept (frame i) ≡ frame i
frame-kept i = ascending-kept (frame i) (frame-ascending i)

-- Slots below i hold their rules of the frame, unmuted, any other is free.

stage-page : (i s : ℕ) → s < i → get_or (stage i) s none ≡ some (new_page (frame s))
stage-page i s l =
    ap (λ (B : Pages). get_or B s none) (stage-split i)
    ∙ get_or-append (front i) (replicate (document.slots - i) none) none s (omega (arith, front_length i))
    ∙ front-page i s l

stage-free : (i s : ℕ) → i ≤ s → get_or (stage i) s none ≡ none
stage-free i s l =
    let e : s ≡ length (front i) + (s - i) = omega (arith, front_length i) in
    let free : Pages = replicate (document.slots - i) none in
    ap (λ (B : Pages). get_or B s none) (stage-split i)
    ∙ ap (λ (k : ℕ). get_or (front i ++ free) k none) e
    ∙ get_or-append-add (front i) free (s - i) none
    ∙ all_alike (document.slots - i) (s - i) none

pub stage-held : (i s : ℕ) → s < i → Held (all (stage i)) s (frame s)
stage-held i s l = held-page (stage i) s (new_page (frame s)) (stage-page i s l) ∙ ap some (frame-kept s)

none_held : (i s : ℕ) → i ≤ s → get_or (all (stage i)) s none ≡ none
none_held i s l = all-at (stage i) s ∙ ap rule_on (stage-free i s l)

pub stage-rule : (i s : ℕ) (r : Rule) → Held (all (stage i)) s r → (s < i) × (r ≡ frame s)
stage-rule i s r h = ⊎_elim
    (λ (l : i ≤ s). absurd (none-ne-some r (sym (none_held i s l) ∙ h)))
    (λ (l : s < i). (l, held-unique (all (stage i)) s r (frame s) h (stage-held i s l)))
    (le-or-lt i s)

-- With the frame's rule of slot i, one rule more stands.

pub stage-set : (i : ℕ) → i < document.slots → set (stage i) i (some (new_page (frame i))) ≡ stage (suc i)
stage-set i l =
    let k = document.slots - suc i in
    let e : document.slots - i ≡ suc k = omega arith in
    let free : Pages = replicate k none in
    ap (λ (B : Pages). set B i (some (new_page (frame i))))
    (stage-split i ∙ ap (λ (m : ℕ). front i ++ replicate m none) e)
    ∙ set_at (front i) none free (some (new_page (frame i))) i (front_length i)
    ∙ sym (append_snoc (front i) (some (new_page (frame i))) free)
    ∙ ap (λ (B : Pages). B ++ free) (sym (front-more i))
    ∙ sym (stage-split (suc i))

-- A checklist just opened is one, and no mark stands in it.
module _ (n : ℕ) (low : 1 ≤ n) (high : n ≤ most_files) where
  pub opened-checklist : Checklist (opened document n) n
  opened-checklist = record {
    low = low;
    high = high;
    unmuted = unmuted-of (opened document n) (λ s. ⊎_elim
        (λ (l : suc n ≤ s). ap unmuted_on (stage-free (suc n) s l))
        (λ (l : s < suc n). ap unmuted_on (stage-page (suc n) s l))
        (le-or-lt (suc n) s));
    frames = λ s l. stage-held (suc n) s (omega arith);
    others = λ s r l h. absurd (omega (arith, (stage-rule (suc n) s r h).0));
  }

  pub opened-unmarked : (a : ℕ) → is_mark n a ≡ true → marked (opened document n) a ≡ false
  opened-unmarked a m = unless _ (λ t. (
      let w = marked-at (all (opened document n)) a t in
      omega (
        arith,
        mark-behind (opened document n) n opened-checklist a w.0 m w.1,
        (stage-rule (suc n) w.0 _ w.1).0,
      )))

-- The entries of the frame's rules are few, and below the limit.

frame-few : (i : ℕ) → leb (length (frame i).positives + length (frame i).negatives) document.entries ≡ true
frame-few zero = le-leb 0 document.entries (omega arith)
frame-few (suc i) = le-leb 3 document.entries (omega arith)

frame-bounded : (i : ℕ) → i ≤ most_files → every (λ x. ltb x document.atoms) (entries (frame i)) ≡ true
unfolding every
frame-bounded zero l = refl
frame-bounded (suc i) l =
    and-of _ _ (lt-ltb (good i) document.atoms (omega arith))
    (and-of _ _ (lt-ltb (sent (suc i)) document.atoms (omega arith))
    (and-of _ _ (lt-ltb (skipped (suc i)) document.atoms (omega arith)) refl))

-- So each rule of the frame passes questions 1 to 4: its atoms are below the limit, and its lists ascend.
pub frame-passes : (i : ℕ) → i ≤ most_files → first_no (rule_questions document (frame i)) ≡ none
frame-passes i l =
    let a = frame-ascending i in
    first_no-yes _ _ (lt-ltb (frame i).head document.atoms (omega (arith, frame-head i)))
    ∙ first_no-yes _ _ (frame-few i)
    ∙ first_no-yes _ _ (frame-bounded i l)
    ∙ first_no-yes _ _ (and-of _ _ (ascending-distinct _ a.positives) (ascending-distinct _ a.negatives))
    ∙ (unfold first_no in refl)
