-- Laws of a checklist's slots: where marks stand, that no loop goes through a negation, that a slot is free for one
-- more mark, and what adding and removing one leaves. Assumes nothing.
use Prim.Native.Nat.{ℕ, zero, suc, ◌*◌, ◌≤◌, ◌<◌}
use native.Mathlib.Omega.{arith}
use mathlib.Core.Path.{◌≡◌, refl, sym, ◌∙◌, ap, subst}
use mathlib.Core.Logic.{⊎_elim}
use mathlib.Core.Bool.{Bool, true, false, not, ◌&&◌, ◌||◌}
use mathlib.Core.List.Memᴰ
use mathlib.Core.List.{List, [], ◌∷◌}
use mathlib.Core.Option.{Option, none, some, none-ne-some}
use lib.Dec.{eqb}
use lib.ListN.{length, length-append, length-set, get_or, set}
use lib.Seq.{get_or-set_same}
use Rattle.theory.specs.Lists.{◌∈◌, Sorted, sort}
use Rattle.theory.specs.Rules.{Rule, Program, Pages, all, new_page, Held, passes, any_rule, entries, same, kept}
use Rattle.theory.specs.Dependencies.{NegativeCycle}
use Rattle.theory.specs.Questions.{lowest_free, put_in, with_added, stratified}
use Rattle.theory.specs.Limits.{document}
use Rattle.theory.proofs.Lists.{and_l, and_r, and-of, or_cases, or_l, or_r, test, clash, unless, same_test, not-true}
use Rattle.theory.proofs.Lists.{false-not, eqb-eq, eqb_of, eqb-not, le-or-lt, sorted-within}
use Rattle.theory.proofs.Rules.{any_rule-at, any_rule-of, held-unique}
use Rattle.theory.proofs.Pages.{all-length, all_set}
use Rattle.theory.proofs.Questions.{held_below, set-held, set_other, other-set, lowest_free-at, full-held}
use Rattle.theory.proofs.Cycles.{stratified-iff}
use Rattle.theory.proofs.Strata.{strata-acyclic}
use Rattle.theory.proofs.Sameness.{same_refl}
use Rattle.checklist_frame.specs.Frame.{Checklist, MarkFact, none_muted, good, fact, frame, files, is_mark, equal}
use Rattle.checklist_frame.specs.Frame.{marked}
use Rattle.checklist_frame.specs.Frame.{first_slot}
use Rattle.checklist_meaning.specs.Book.{with_fact}
use Rattle.checklist_frame.proofs.Unmuted.{unmuted-set}
use Rattle.checklist_frame.proofs.Frames.{in_one, equal-refl, equal-path, frame-head, in_files, passes-held}
use Rattle.checklist_frame.proofs.Frames.{mark-below, mark-not-good}

-- A mark stands exactly if a slot holds its fact. (Of pages it is asked of all rules held.)

abbrev stands : Program → ℕ → Bool
stands P a = any_rule (equal (fact a)) P

pub marked-at : (P : Program) (a : ℕ) → stands P a ≡ true → (s : ℕ) × Held P s (fact a)
marked-at P a t =
    let w = any_rule-at (equal (fact a)) P t in
    (w.0, subst (Held P w.0) (sym (equal-path (fact a) w.1 w.3)) w.2)

pub marked-of : (P : Program) (a s : ℕ) → Held P s (fact a) → stands P a ≡ true
marked-of P a s h = any_rule-of (equal (fact a)) P s (fact a) h (equal-refl (fact a))

-- Where every entry lies below its rule's head, no path of dependencies goes up: there is no loop through a negation.
pub descending-acyclic :
    (P : Program) → ((s : ℕ) (r : Rule) → Held P s r → (x : ℕ) → x ∈ entries r → x < r.head) → NegativeCycle P → ⊥
descending-acyclic P down = strata-acyclic P (λ a. a) (record {
  up = λ s r h x m. (let l = down s r h x (Memᴰ.append_left r.negatives m) in omega arith);
  over = λ s r h x m. down s r h x (Memᴰ.append_right r.positives m);
})

frame-entries : (s x : ℕ) → x ∈ entries (frame s) → x < (frame s).head
frame-entries zero x m = absurd (Memᴰ.not-nil m)
frame-entries (suc i) x m = ⊎_elim
    (λ (e : x ≡ good i). omega arith)
    (λ (m' : x ∈ _ ∷ _ ∷ []). ⊎_elim
    (λ (e : x ≡ _). omega arith)
    (λ (m'' : x ∈ _ ∷ []). omega (arith, in_one x _ m''))
    (Memᴰ.cases_cons m'))
    (Memᴰ.cases_cons m)

module _ (B : Pages) (n : ℕ) (C : Checklist B n) where
  -- In a checklist every entry lies below its rule's head.
  pub entries_below : (s : ℕ) (r : Rule) → Held (all B) s r → (x : ℕ) → x ∈ entries r → x < r.head
  entries_below s r h x m = ⊎_elim
      (λ (l : s ≤ n). (
      let e = held-unique (all B) s (frame s) r (C.frames s l) h in
      subst (λ (q : Rule). x < q.head) e
      (frame-entries s x (subst (λ (q : Rule). x ∈ entries q) (sym e) m))))
      (λ (l : n < s).
      absurd (Memᴰ.not-nil (subst (λ (q : Rule). x ∈ entries q) (C.others s r l h).1 m)))
      (le-or-lt s n)

  pub checklist-acyclic : NegativeCycle (all B) → ⊥
  checklist-acyclic = descending-acyclic (all B) entries_below

  pub checklist-stratified : stratified (all B) ≡ true
  checklist-stratified = (stratified-iff (all B)).1 checklist-acyclic

  -- A slot of the frame has its good as its head.
  pub frame-good : (s : ℕ) (r : Rule) → s ≤ n → Held (all B) s r → r.head ≡ good s
  frame-good s r l h =
      ap (λ (q : Rule). q.head) (held-unique (all B) s r (frame s) h (C.frames s l)) ∙ frame-head s

  -- No head is above the last good.
  pub head-bound : (s : ℕ) (r : Rule) → Held (all B) s r → r.head ≤ 3 * n
  head-bound s r h = ⊎_elim
      (λ (l : s ≤ n). omega (arith, frame-good s r l h))
      (λ (l : n < s). omega (arith, mark-below n r.head (C.others s r l h).0))
      (le-or-lt s n)

  -- A rule whose head is a mark is that mark's fact, and stands behind the frame.
  pub mark-rule :
      (a s : ℕ) (r : Rule) → is_mark n a ≡ true → Held (all B) s r → r.head ≡ a → Held (all B) s (fact a) × (n < s)
  mark-rule a s r m h e = ⊎_elim
      (λ (l : s ≤ n). absurd (mark-not-good n a m s (sym e ∙ frame-good s r l h)))
      (λ (l : n < s). (subst (Held (all B) s) ((C.others s r l h).1 ∙ ap fact e) h, l))
      (le-or-lt s n)

  pub mark-behind : (a s : ℕ) → is_mark n a ≡ true → Held (all B) s (fact a) → n < s
  mark-behind a s m h = (mark-rule a s (fact a) m h refl).1

-- No two slots hold the same rule: as a sound table's program has it.
abbrev pub Single : Program → Type 0
Single P = (s t : ℕ) (q r : Rule) → Held P s q → Held P t r → same q r ≡ true → s ≡ t

-- In a checklist the lowest free slot lies behind the frame.
pub free-behind : (B : Pages) (n s : ℕ) → Checklist B n → lowest_free (all B) ≡ some s → n < s
free-behind B n s C e = ⊎_elim
    (λ (l : s ≤ n). absurd (none-ne-some (frame s) (sym (lowest_free-at (all B) s e).1 ∙ C.frames s l)))
    (λ (l : n < s). l)
    (le-or-lt s n)

-- The heads of the first k slots, the last first; a free slot counts as 0.

head_in : Option Rule → ℕ
head_in none = zero
head_in (some r) = r.head

first-heads : Program → ℕ → List ℕ
first-heads P zero = []
first-heads P (suc k) = head_in (get_or P k none) ∷ first-heads P k

heads-length : (P : Program) (k : ℕ) → length (first-heads P k) ≡ k
unfolding first-heads
heads-length P zero = refl
heads-length P (suc k) = ap suc (heads-length P k)

heads-at : (P : Program) (k x : ℕ) → x ∈ first-heads P k → (t : ℕ) × (t < k) × (x ≡ head_in (get_or P t none))
unfolding first-heads
heads-at P zero x m = absurd (Memᴰ.not-nil m)
heads-at P (suc k) x m = ⊎_elim
    (λ (e : x ≡ head_in (get_or P k none)). (k, omega arith, e))
    (λ (m' : x ∈ first-heads P k). (let w = heads-at P k x m' in (w.0, omega (arith, w.1), w.2)))
    (Memᴰ.cases_cons m)

files-length : (n : ℕ) → length (files n) ≡ n
unfolding files
files-length zero = refl
files-length (suc n) = (let e = length-append (files n) (suc n ∷ []) in omega (arith, files-length n))

module _ (B : Pages) (n : ℕ) (C : Checklist B n) (S : Single (all B)) where
  -- The heads of two slots differ.
  pub heads-differ : (s t : ℕ) (q r : Rule) → Held (all B) s q → Held (all B) t r → q.head ≡ r.head → s ≡ t
  heads-differ s t q r h i e = ⊎_elim
      (λ (l : s ≤ n). ⊎_elim
      (λ (k : t ≤ n). omega (arith, frame-good B n C s q l h, frame-good B n C t r k i))
      (λ (k : n < t). absurd (mark-not-good n r.head (C.others t r k i).0 s (sym e ∙ frame-good B n C s q l h)))
      (le-or-lt t n))
      (λ (l : n < s). ⊎_elim
      (λ (k : t ≤ n). absurd (mark-not-good n q.head (C.others s q l h).0 t (e ∙ frame-good B n C t r k i)))
      (λ (k : n < t). (
      let d : q ≡ r = (C.others s q l h).1 ∙ ap fact e ∙ sym (C.others t r k i).1 in
      S s t q r h i (ap (same q) (sym d) ∙ same_refl q)))
      (le-or-lt t n))
      (le-or-lt s n)

  -- The heads of slots that are all held are different numbers from 0 to 3 * n.
  module _ (held : (t : ℕ) → t < length (all B) → (r : Rule) × Held (all B) t r) where
    held-head : (t : ℕ) (l : t < length (all B)) → head_in (get_or (all B) t none) ≡ (held t l).0.head
    unfolding head_in
    held-head t l = ap head_in (held t l).1

    heads-sorted : (k : ℕ) → k ≤ length (all B) → Sorted (λ x y. x ≡ y → ⊥) (first-heads (all B) k)
    unfolding first-heads
    heads-sorted zero l = tt
    heads-sorted (suc k) l = (
      λ y m e. (let w = heads-at (all B) k y m in
          let i : w.0 < length (all B) = omega (arith, w.1) in
          omega (
            arith,
            w.1,
            heads-differ k w.0 _ _ (held k l).1 (held w.0 i).1
                (sym (held-head k l) ∙ e ∙ w.2 ∙ held-head w.0 i),
          )),
      heads-sorted k (omega arith),
    )

    heads-bounded : (x : ℕ) → x ∈ first-heads (all B) (length (all B)) → x ∈ 0 ∷ files (3 * n)
    heads-bounded x m =
        let w = heads-at (all B) (length (all B)) x m in
        let b = head-bound B n C w.0 _ (held w.0 w.1).1 in
        let e = held-head w.0 w.1 in
        ⊎_elim
        (λ (l : x ≤ 0). (let z : x ≡ 0 = omega arith in Memᴰ.head z))
        (λ (l : 0 < x). Memᴰ.tail ((in_files (3 * n) x).1 (l, omega (arith, w.2, e, b))))
        (le-or-lt x 0)

    few-held : length (all B) ≤ suc (3 * n)
    few-held = omega (
      arith,
      sorted-within (λ x y. x ≡ y → ⊥) (λ x f. f refl) (0 ∷ files (3 * n)) (first-heads (all B) (length (all B)))
          (heads-sorted (length (all B)) (omega arith)) heads-bounded,
      heads-length (all B) (length (all B)),
      files-length (3 * n),
    )

  -- A checklist in a table always has a free slot, and it lies behind the frame: the heads of held slots are different
  -- numbers from 0 to 3 * n, so at most 181 of the 256 slots are held.
  pub free-slot :
      length B ≡ document.slots → (s : ℕ) × (lowest_free (all B) ≡ some s) × (n < s) × (s < document.slots)
  free-slot size = go (lowest_free (all B)) refl
    where
      go :
          (o : Option ℕ) → lowest_free (all B) ≡ o
          → (s : ℕ) × (lowest_free (all B) ≡ some s) × (n < s) × (s < document.slots)
      go none e = absurd (omega (arith, few-held (full-held (all B) e), C.high, all-length B, size))
      go (some s) e = (s, e, free-behind B n s C e, omega (arith, (lowest_free-at (all B) s e).0, all-length B, size))

-- One number is another, or not.
same_number : (s t : ℕ) {A : Type 0} → (s ≡ t → A) → ((s ≡ t → ⊥) → A) → A
same_number s t {A} f g = ⊎_elim
    (λ (u : eqb s t ≡ true). f (eqb-eq s t u))
    (λ (u : eqb s t ≡ false). g (λ e. clash (eqb_of s t e) u))
    (test (eqb s t))

-- A rule held after slot s was freed stands in another slot, where it was held before.

freed-other : (P : Program) (s t : ℕ) (r : Rule) → Held (set P s none) t r → t ≡ s → ⊥
freed-other P s t r h e =
    let i : Held (set P s none) s r = subst (λ (z : ℕ). Held (set P s none) z r) e h in
    let l : s < length P = omega (arith, held_below (set P s none) s r i, length-set P s none) in
    none-ne-some r (sym (get_or-set_same P s none none l) ∙ i)

freed-held : (P : Program) (s t : ℕ) (r : Rule) → Held (set P s none) t r → Held P t r
freed-held P s t r h = other-set P s t none r (freed-other P s t r h) h

-- Pages after a change are a checklist of as many files if none is muted and their rules are those of one.
changed-checklist :
    (B D : Pages) (P : Program) (n : ℕ) → Checklist B n → none_muted D ≡ true → all D ≡ P
    → ((s : ℕ) → s ≤ n → Held P s (frame s)) → ((s : ℕ) (r : Rule) → n < s → Held P s r → MarkFact n r)
    → Checklist D n
changed-checklist B D P n C u e f o = record {
  low = C.low;
  high = C.high;
  unmuted = u;
  frames = λ s l. ap (λ (Q : Program). get_or Q s none) e ∙ f s l;
  others = λ s r l h. o s r l (ap (λ (Q : Program). get_or Q s none) (sym e) ∙ h);
}

-- The rules held with the page of a fact put: it is kept as it is.
fact-put : (B : Pages) (s a : ℕ) → all (set B s (some (new_page (fact a)))) ≡ set (all B) s (some (fact a))
unfolding sort
fact-put B s a = all_set B s (some (new_page (fact a)))

-- A slot behind the frame is put or freed: what else stands, stays.
module _ (B : Pages) (n : ℕ) (C : Checklist B n) (s : ℕ) (behind : n < s) where
  -- With a mark put there it is a checklist of as many files.
  pub mark-put :
      (a : ℕ) → is_mark n a ≡ true → s < length (all B) → Checklist (set B s (some (new_page (fact a)))) n
  mark-put a m l =
      let Q : Program = set (all B) s (some (fact a)) in
      changed-checklist B (set B s (some (new_page (fact a)))) Q n C
      (unmuted-set B s (some (new_page (fact a))) C.unmuted refl) (fact-put B s a)
      (λ t k. set_other (all B) s t (some (fact a)) (frame t) (λ e. omega arith) (C.frames t k))
      (λ t r k h. same_number t s
      (λ e. (
      let d = held-unique Q s (fact a) r (set-held (all B) s (fact a) l) (subst (λ (z : ℕ). Held Q z r) e h) in
      subst (MarkFact n) d (m, refl)))
      (λ f. C.others t r k (other-set (all B) s t (some (fact a)) r f h)))

  -- With nothing there as well.
  pub mark-freed : Checklist (set B s none) n
  mark-freed =
      changed-checklist B (set B s none) (set (all B) s none) n C (unmuted-set B s none C.unmuted refl)
      (all_set B s none)
      (λ t k. set_other (all B) s t none (frame t) (λ e. omega arith) (C.frames t k))
      (λ t r k h. C.others t r k (freed-held (all B) s t r h))

-- What marks stand then.

pub put-marked :
    (P : Program) (s a b : ℕ) → s < length P → get_or P s none ≡ none
    → stands (set P s (some (fact a))) b ≡ (eqb a b || stands P b)
put-marked P s a b l free = same_test _ _ (λ t. there (marked-at Q b t)) back
  where
    Q : Program
    Q = set P s (some (fact a))

    there : (t : ℕ) × Held Q t (fact b) → (eqb a b || stands P b) ≡ true
    there w = same_number w.0 s
        (λ e. (
        let h : Held Q s (fact b) = subst (λ (z : ℕ). Held Q z (fact b)) e w.1 in
        let d = ap (λ (r : Rule). r.head) (held-unique Q s (fact a) (fact b) (set-held P s (fact a) l) h) in
        or_l (eqb a b) (stands P b) (eqb_of a b d)))
        (λ f. or_r (eqb a b) (stands P b)
        (marked-of P b w.0 (other-set P s w.0 (some (fact a)) (fact b) f w.1)))

    back : (eqb a b || stands P b) ≡ true → stands Q b ≡ true
    back t = ⊎_elim
        (λ (u : eqb a b ≡ true).
        marked-of Q b s (set-held P s (fact a) l ∙ ap (λ (z : ℕ). some (fact z)) (eqb-eq a b u)))
        (λ (u : stands P b ≡ true). (
        let w = marked-at P b u in
        marked-of Q b w.0 (set_other P s w.0 (some (fact a)) (fact b)
        (λ e. none-ne-some (fact b)
        (sym free ∙ subst (λ (z : ℕ). get_or P z none ≡ some (fact b)) e w.1)) w.1)))
        (or_cases (eqb a b) (stands P b) t)

-- A mark's fact added: its page is the lowest that is free.
module _ (B : Pages) (s a : ℕ) (low : lowest_free (all B) ≡ some s) where
  pub fact-added : with_fact B a ≡ set B s (some (new_page (fact a)))
  fact-added = ap (λ (o : Option ℕ). put_in B o (new_page (fact a))) low

  -- the rules held are those with the fact added
  pub rules-added : all (with_fact B a) ≡ with_added (all B) (fact a)
  rules-added =
      ap all fact-added ∙ all_set B s (some (new_page (fact a)))
      ∙ sym (ap (λ (o : Option ℕ). put_in (all B) o (kept (fact a))) low)

  pub added-checklist : (n : ℕ) → Checklist B n → is_mark n a ≡ true → Checklist (with_fact B a) n
  added-checklist n C m =
      subst (λ (D : Pages). Checklist D n) (sym fact-added)
      (mark-put B n C s (free-behind B n s C low) a m (lowest_free-at (all B) s low).0)

  pub added-marked : (b : ℕ) → marked (with_fact B a) b ≡ (eqb a b || marked B b)
  added-marked b =
      let w = lowest_free-at (all B) s low in
      ap (λ (P : Program). stands P b) (ap all fact-added ∙ fact-put B s a) ∙ put-marked (all B) s a b w.0 w.1

-- The first slot that holds a rule is the one told.
slot-first :
    (r : Rule) (P : Program) (s : ℕ) → Held P s r → ((t : ℕ) → t < s → Held P t r → ⊥) → first_slot r P ≡ s
unfolding first_slot
slot-first r [] s h f = absurd (none-ne-some r h)
slot-first r (o ∷ P) zero h f = (let t : passes (equal r) o ≡ true = ap (passes (equal r)) h ∙ equal-refl r in
    rw (t, first_slot))
slot-first r (o ∷ P) (suc s) h f =
    let t : passes (equal r) o ≡ false = unless _ (λ u. f 0 (omega arith) (passes-held r o u)) in
    (rw (t, first_slot)) ∙ ap suc (slot-first r P s h (λ t l. f (suc t) (omega arith)))

-- A mark's fact stands in one slot, which is the one told.

module _ (P : Program) (S : Single P) (a : ℕ) where
  pub one-fact : (s t : ℕ) → Held P s (fact a) → Held P t (fact a) → s ≡ t
  one-fact s t h i = S s t (fact a) (fact a) h i (same_refl (fact a))

  pub fact-slot : (s : ℕ) → Held P s (fact a) → first_slot (fact a) P ≡ s
  fact-slot s h = slot-first (fact a) P s h (λ t l i. (let e = one-fact t s i h in omega arith))

  pub freed-marked :
      (s b : ℕ) → Held P s (fact a) → stands (set P s none) b ≡ (not (eqb a b) && stands P b)
  freed-marked s b h = same_test _ _ there back
    where
      there : stands (set P s none) b ≡ true → (not (eqb a b) && stands P b) ≡ true
      there t =
          let w = marked-at (set P s none) b t in
          let i = freed-held P s w.0 (fact b) w.1 in
          and-of _ _ (false-not (eqb a b) (eqb-not a b (λ e. freed-other P s w.0 (fact b) w.1
          (one-fact w.0 s (i ∙ ap (λ (z : ℕ). some (fact z)) (sym e)) h)))) (marked-of P b w.0 i)

      back : (not (eqb a b) && stands P b) ≡ true → stands (set P s none) b ≡ true
      back t =
          let w = marked-at P b (and_r (not (eqb a b)) (stands P b) t) in
          let f = not-true (eqb a b) (and_l (not (eqb a b)) (stands P b) t) in
          marked-of (set P s none) b w.0 (set_other P s w.0 none (fact b)
          (λ e. (
          let i : Held P s (fact b) = subst (λ (z : ℕ). Held P z (fact b)) e w.1 in
          let d = ap (λ (r : Rule). r.head) (held-unique P s (fact a) (fact b) h i) in
          clash (eqb_of a b d) f)) w.1)

-- A mark's fact removed from the slot told.
module _ (B : Pages) (S : Single (all B)) (a : ℕ) (there : marked B a ≡ true) where
  pub slot_held : Held (all B) (first_slot (fact a) (all B)) (fact a)
  slot_held =
      let w = marked-at (all B) a there in
      subst (λ (s : ℕ). Held (all B) s (fact a)) (sym (fact-slot (all B) S a w.0 w.1)) w.1

  pub removed-checklist :
      (n : ℕ) → Checklist B n → is_mark n a ≡ true → Checklist (set B (first_slot (fact a) (all B)) none) n
  removed-checklist n C m = mark-freed B n C _ (mark-behind B n C a _ m slot_held)

  pub removed-marked :
      (b : ℕ) → marked (set B (first_slot (fact a) (all B)) none) b ≡ (not (eqb a b) && marked B b)
  removed-marked b =
      ap (λ (P : Program). stands P b) (all_set B (first_slot (fact a) (all B)) none)
      ∙ freed-marked (all B) S a _ b slot_held
