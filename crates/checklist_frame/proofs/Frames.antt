-- Laws of the frame and of the marks' atoms: pages are a checklist of n files if none is muted and the slots hold what
-- they should, and of no other number. Assumes nothing.
use Prim.Native.Nat.{ℕ, zero, suc, ◌+◌, ◌*◌, ◌/◌, ◌%◌, ◌≤◌, ◌<◌}
use native.Mathlib.Omega.{arith}
use mathlib.Core.Path.{◌≡◌, refl, sym, ◌∙◌, ap, ap₂, subst}
use mathlib.Core.Logic.{◌⊎◌, inl, inr, ⊎_elim, ◌↔◌}
use mathlib.Core.Bool.{Bool, true, false, ◌&&◌, ◌||◌, true≢false}
use mathlib.Core.List.Memᴰ
use mathlib.Core.List.{List, [], ◌∷◌}
use mathlib.Core.Option.{Option, none, some, some-injective, none-ne-some}
use lib.Dec.{eqb, leb}
use lib.ListN.{length, get_or}
use Rattle.theory.specs.Lists.{◌∈◌}
use Rattle.theory.specs.Rules.{Rule, Program, Page, Pages, all, passes}
use Rattle.theory.proofs.Lists.{and_l, and_r, and-of, or_cases, or_l, or_r, unless, clash, eqb-eq, eqb_of}
use Rattle.theory.proofs.Lists.{ltb-lt, lt-ltb, leb-le, le-leb, le-or-lt, any_at, any_of}
use Rattle.theory.proofs.Lists.{first-place, first-in, first-exists, first_of}
use Rattle.checklist_frame.specs.Frame.{Checklist, most_files, sent, skipped, good, fact, frame, files, is_mark}
use Rattle.checklist_frame.specs.Frame.{equal_lists}
use Rattle.checklist_frame.specs.Frame.{equal, free_or_mark, fits, fits_from, files_of, none_muted, on_list}
use Rattle.checklist_frame.proofs.Unmuted.{unmuted-page}

-- Lists that are told equal are; so are rules, and each is equal to itself.

lists-path : (xs ys : List ℕ) → equal_lists xs ys ≡ true → xs ≡ ys
unfolding equal_lists
lists-path [] [] t = refl
lists-path [] (y ∷ ys) t = absurd (true≢false (sym t))
lists-path (x ∷ xs) [] t = absurd (true≢false (sym t))
lists-path (x ∷ xs) (y ∷ ys) t =
    ap₂ {C = List ℕ} (λ z zs. z ∷ zs) (eqb-eq x y (and_l (eqb x y) _ t)) (lists-path xs ys (and_r (eqb x y) _ t))

lists-refl : (xs : List ℕ) → equal_lists xs xs ≡ true
unfolding equal_lists
lists-refl [] = refl
lists-refl (x ∷ xs) = and-of _ _ (eqb_of x x refl) (lists-refl xs)

pub equal-refl : (r : Rule) → equal r r ≡ true
unfolding equal
equal-refl r =
    and-of _ _ (eqb_of r.head r.head refl) (and-of _ _ (lists-refl r.positives) (lists-refl r.negatives))

pub equal-path : (q r : Rule) → equal q r ≡ true → q ≡ r
unfolding equal
equal-path q r t =
    let h = eqb-eq q.head r.head (and_l (eqb q.head r.head) _ t) in
    let u = and_r (eqb q.head r.head) _ t in
    let p = lists-path q.positives r.positives (and_l (equal_lists q.positives r.positives) _ u) in
    let n = lists-path q.negatives r.negatives (and_r (equal_lists q.positives r.positives) _ u) in
    λ i. record { head = h i; positives = p i; negatives = n i }

pub equal-iff : (q r : Rule) → (equal q r ≡ true) ↔ (q ≡ r)
equal-iff q r = (equal-path q r, λ e. ap (equal q) (sym e) ∙ equal-refl q)

-- What stands in a list of one is that one.
pub in_one : (x y : ℕ) → x ∈ y ∷ [] → x ≡ y
in_one x y m = ⊎_elim
    (λ (e : x ≡ y). e)
    (λ (k : x ∈ []). absurd (Memᴰ.not-nil k))
    (Memᴰ.cases_cons m)

-- The files are the numbers from 1 to n.

file-at : (i n : ℕ) → i ∈ files n → (1 ≤ i) × (i ≤ n)
unfolding files
file-at i zero m = absurd (Memᴰ.not-nil m)
file-at i (suc n) m = ⊎_elim
    (λ (m' : i ∈ files n). (let l = file-at i n m' in (l.0, omega (arith, l.1))))
    (λ (m' : i ∈ suc n ∷ []). (let e = in_one i (suc n) m' in (omega arith, omega arith)))
    (Memᴰ.append_cases (files n) m)

file-of : (i n : ℕ) → 1 ≤ i → i ≤ n → i ∈ files n
unfolding files
file-of i zero l k = absurd (omega arith)
file-of i (suc n) l k = ⊎_elim
    (λ (j : i ≤ n). Memᴰ.append_left (suc n ∷ []) (file-of i n l j))
    (λ (j : n < i). (let e : i ≡ suc n = omega arith in Memᴰ.append_right (files n) (Memᴰ.head e)))
    (le-or-lt i n)

pub in_files : (n i : ℕ) → i ∈ files n ↔ ((1 ≤ i) × (i ≤ n))
in_files n i = (file-at i n, λ l. file-of i n l.0 l.1)

-- A file on the list is one of its numbers.
pub on-list-between : (n i : ℕ) → on_list (some n) i ≡ true → (1 ≤ i) × (i ≤ n)
on-list-between n i o = (leb-le 1 i (and_l (leb 1 i) _ o), leb-le i n (and_r (leb 1 i) _ o))

pub between-on-list : (n i : ℕ) → 1 ≤ i → i ≤ n → on_list (some n) i ≡ true
between-on-list n i l h = and-of _ _ (le-leb 1 i l) (le-leb i n h)

-- The atom a is a mark of one of n files.
pub record MarkOf (n a : ℕ) : Type 0 where
  pub file : ℕ
  pub low : 1 ≤ file
  pub high : file ≤ n
  pub which : (a ≡ sent file) ⊎ (a ≡ skipped file)

-- The test tells it.
pub is_mark-iff : (n a : ℕ) → (is_mark n a ≡ true) ↔ MarkOf n a
unfolding is_mark
is_mark-iff n a = (
  λ t. (let w = any_at (λ i. eqb a (sent i) || eqb a (skipped i)) (files n) t in
      let l = (in_files n w.0).0 w.1 in
      record { file = w.0; low = l.0; high = l.1; which = which w.0 w.2 }),
  λ m. any_of (λ i. eqb a (sent i) || eqb a (skipped i)) (files n) m.file
      ((in_files n m.file).1 (m.low, m.high)) (told m.file m.which),
)
  where
    which : (i : ℕ) → (eqb a (sent i) || eqb a (skipped i)) ≡ true → (a ≡ sent i) ⊎ (a ≡ skipped i)
    which i t = ⊎_elim
        (λ (u : eqb a (sent i) ≡ true). inl (eqb-eq a (sent i) u))
        (λ (u : eqb a (skipped i) ≡ true). inr (eqb-eq a (skipped i) u))
        (or_cases (eqb a (sent i)) (eqb a (skipped i)) t)

    told : (i : ℕ) → (a ≡ sent i) ⊎ (a ≡ skipped i) → (eqb a (sent i) || eqb a (skipped i)) ≡ true
    told i w = ⊎_elim
        (λ (e : a ≡ sent i). or_l _ (eqb a (skipped i)) (eqb_of a (sent i) e))
        (λ (e : a ≡ skipped i). or_r (eqb a (sent i)) _ (eqb_of a (skipped i) e)) w

-- In numbers: below 3 * n, and no multiple of 3.
pub is_mark-numbers : (n a : ℕ) → (is_mark n a ≡ true) ↔ ((a < 3 * n) × (a % 3 ≡ 0 → ⊥))
is_mark-numbers n a = (
  λ t. (let m = (is_mark-iff n a).0 t in numbers m.file m.low m.high m.which),
  λ w. (is_mark-iff n a).1
      (record { file = suc (a / 3); low = omega arith; high = omega (arith, w.0); which = which w.1 }),
)
  where
    numbers :
        (i : ℕ) → 1 ≤ i → i ≤ n → (a ≡ sent i) ⊎ (a ≡ skipped i) → (a < 3 * n) × (a % 3 ≡ 0 → ⊥)
    numbers i l h w = ⊎_elim
        (λ (e : a ≡ sent i). (omega arith, λ z. omega arith))
        (λ (e : a ≡ skipped i). (omega arith, λ z. omega arith)) w

    which : (a % 3 ≡ 0 → ⊥) → (a ≡ sent (suc (a / 3))) ⊎ (a ≡ skipped (suc (a / 3)))
    which f = ⊎_elim
        (λ (l : a % 3 ≤ 1). ⊎_elim
        (λ (k : a % 3 ≤ 0). absurd (f (omega arith)))
        (λ (k : 0 < a % 3). inl (omega arith))
        (le-or-lt (a % 3) 0))
        (λ (l : 1 < a % 3). inr (omega arith))
        (le-or-lt (a % 3) 1)

-- A mark's atom lies between the start and the last good, and is none of the goods.
module _ (n a : ℕ) (m : is_mark n a ≡ true) where
  pub mark-below : a < 3 * n
  mark-below = ((is_mark-numbers n a).0 m).0

  pub mark-not-good : (j : ℕ) → a ≡ good j → ⊥
  mark-not-good j e = ((is_mark-numbers n a).0 m).1 (omega arith)

  pub mark-above : 0 < a
  mark-above = ⊎_elim
      (λ (l : a ≤ 0). absurd (mark-not-good 0 (omega arith)))
      (λ (l : 0 < a). l)
      (le-or-lt a 0)

-- The marks of a file on the list are marks.
module _ (n i : ℕ) (low : 1 ≤ i) (high : i ≤ n) where
  pub sent-mark : is_mark n (sent i) ≡ true
  sent-mark = (is_mark-iff n (sent i)).1 (record { file = i; low = low; high = high; which = inl refl })

  pub skipped-mark : is_mark n (skipped i) ≡ true
  skipped-mark = (is_mark-iff n (skipped i)).1 (record { file = i; low = low; high = high; which = inr refl })

-- What a slot holds, up to slot n and behind it.

pub fits-frame : (n s : ℕ) (o : Option Rule) → s ≤ n → fits n s o ≡ passes (equal (frame s)) o
unfolding fits
fits-frame n s o l = rw (le-leb s n l, fits)

pub fits-behind : (n s : ℕ) (o : Option Rule) → n < s → fits n s o ≡ free_or_mark n o
unfolding fits
fits-behind n s o l = (let e : leb s n ≡ false = unless _ (λ t. omega (arith, leb-le s n t)) in rw (e, fits))

-- Every slot from slot k on, which is the first of P, holds what it should: the test tells it of all, those past the
-- last as well.

fits-at : (n k : ℕ) (P : Program) → fits_from n k P ≡ true → (s : ℕ) → fits n (k + s) (get_or P s none) ≡ true
unfolding fits_from
fits-at n k [] t s = fits-behind n (k + s) none (omega (arith, ltb-lt n k t))
fits-at n k (o ∷ P) t zero = (let e : k ≡ k + 0 = omega arith in
    subst (λ (z : ℕ). fits n z o ≡ true) e (and_l (fits n k o) _ t))
fits-at n k (o ∷ P) t (suc s) = (let e : suc k + s ≡ k + suc s = omega arith in
    subst (λ (z : ℕ). fits n z (get_or P s none) ≡ true) e (fits-at n (suc k) P (and_r (fits n k o) _ t) s))

fits-of : (n k : ℕ) (P : Program) → ((s : ℕ) → fits n (k + s) (get_or P s none) ≡ true) → fits_from n k P ≡ true
unfolding fits_from
fits-of n k [] f = ⊎_elim
    (λ (l : k ≤ n). (let e : k + 0 ≡ k = omega arith in
    absurd (true≢false (sym (f 0) ∙ fits-frame n (k + 0) none (omega arith)))))
    (λ (l : n < k). lt-ltb n k l)
    (le-or-lt k n)
fits-of n k (o ∷ P) f =
    let e : k + 0 ≡ k = omega arith in
    and-of _ _ (subst (λ (z : ℕ). fits n z o ≡ true) e (f 0)) (fits-of n (suc k) P (λ s. (
    let q : k + suc s ≡ suc k + s = omega arith in
    subst (λ (z : ℕ). fits n z (get_or P s none) ≡ true) q (f (suc s)))))

pub fits_all : (n : ℕ) (P : Program) → (fits_from n 0 P ≡ true) ↔ ((s : ℕ) → fits n s (get_or P s none) ≡ true)
fits_all n P = (
  λ t s. (let e : 0 + s ≡ s = omega arith in subst (λ (z : ℕ). fits n z (get_or P s none) ≡ true) e (fits-at n 0 P t s)),
  λ f. fits-of n 0 P (λ s. (
      let e : s ≡ 0 + s = omega arith in subst (λ (z : ℕ). fits n z (get_or P s none) ≡ true) e (f s))),
)

-- The frame's rule of slot i has good i as its head; a file's has entries, so it is no fact.

pub frame-head : (s : ℕ) → (frame s).head ≡ good s
frame-head zero = refl
frame-head (suc i) = refl

pub frame-not-fact : (i a : ℕ) → frame (suc i) ≡ fact a → ⊥
frame-not-fact i a e = (let z : ◌≡◌ {A = ℕ} 2 0 = ap (λ (r : Rule). length r.positives) e in omega arith)

-- Of no other number of files: behind the frame no slot holds a rule with entries.

not-fewer : (B : Pages) (m n : ℕ) → Checklist B m → Checklist B n → m < n → ⊥
not-fewer B m zero C D l = omega arith
not-fewer B m (suc i) C D l =
    frame-not-fact i _ (C.others (suc i) (frame (suc i)) l (D.frames (suc i) (omega arith))).1

pub one_number : (B : Pages) (m n : ℕ) → Checklist B m → Checklist B n → m ≡ n
one_number B m n C D = ⊎_elim
    (λ (l : m ≤ n). ⊎_elim
    (λ (k : n ≤ m). omega arith)
    (λ (k : m < n). absurd (not-fewer B m n C D k))
    (le-or-lt n m))
    (λ (l : n < m). absurd (not-fewer B n m D C l))
    (le-or-lt m n)

-- The test of a slot is what a checklist asks of it.

pub passes-held : (q : Rule) (o : Option Rule) → passes (equal q) o ≡ true → o ≡ some q
passes-held q none t = absurd (true≢false (sym t))
passes-held q (some r) t = ap some (sym (equal-path q r t))

mark-held : (n : ℕ) (o : Option Rule) (r : Rule) → free_or_mark n o ≡ true → o ≡ some r
    → (is_mark n r.head ≡ true) × (r ≡ fact r.head)
mark-held n none r t e = absurd (none-ne-some r e)
mark-held n (some q) r t e =
    let d = some-injective q r e in
    subst (λ (z : Rule). (is_mark n z.head ≡ true) × (z ≡ fact z.head)) d (
      and_l (is_mark n q.head) _ t,
      sym (equal-path (fact q.head) q (and_r (is_mark n q.head) _ t)),
    )

held-mark :
    (n : ℕ) (o : Option Rule) → ((r : Rule) → o ≡ some r → (is_mark n r.head ≡ true) × (r ≡ fact r.head))
    → free_or_mark n o ≡ true
held-mark n none f = refl
held-mark n (some q) f = (let w = f q refl in and-of _ _ w.0 ((equal-iff (fact q.head) q).1 (sym w.1)))

fits-checklist :
    (B : Pages) (n : ℕ) → 1 ≤ n → n ≤ most_files → (none_muted B && fits_from n 0 (all B)) ≡ true → Checklist B n
fits-checklist B n l h t = (let f = (fits_all n (all B)).0 (and_r (none_muted B) _ t) in record {
  low = l;
  high = h;
  unmuted = and_l (none_muted B) _ t;
  frames = λ s k. passes-held (frame s) (get_or (all B) s none) (sym (fits-frame n s _ k) ∙ f s);
  others = λ s r k e. mark-held n (get_or (all B) s none) r (sym (fits-behind n s _ k) ∙ f s) e;
})

checklist-fits : (B : Pages) (n : ℕ) → Checklist B n → (none_muted B && fits_from n 0 (all B)) ≡ true
checklist-fits B n C = and-of _ _ C.unmuted ((fits_all n (all B)).1 (λ s. ⊎_elim
    (λ (l : s ≤ n). fits-frame n s _ l ∙ ap (passes (equal (frame s))) (C.frames s l) ∙ equal-refl (frame s))
    (λ (l : n < s). fits-behind n s _ l ∙ held-mark n (get_or (all B) s none) (λ r. C.others s r l))
    (le-or-lt s n)))

-- What is told of pages is the number of files of which they are the checklist.

pub checklist-of : (B : Pages) (n : ℕ) → files_of B ≡ some n → Checklist B n
unfolding files_of
checklist-of B n e =
    let f : ℕ → Bool = λ k. none_muted B && fits_from k 0 (all B) in
    let w = first-place f (files most_files) n e in
    let l = (in_files most_files n).0 (first-in f (files most_files) _ n w) in
    fits-checklist B n l.0 l.1 w.good

pub of-checklist : (B : Pages) (n : ℕ) → Checklist B n → files_of B ≡ some n
unfolding files_of
of-checklist B n C =
    let f : ℕ → Bool = λ k. none_muted B && fits_from k 0 (all B) in
    let w = first-exists f (files most_files) n ((in_files most_files n).1 (C.low, C.high)) (checklist-fits B n C) in
    let e = (first_of f (files most_files) w.0 w.1 w.2).0 in
    e ∙ ap some (one_number B w.1 n (checklist-of B w.1 e) C)

-- Pages that are a checklist of no number of files are told as none.
pub no-files : (B : Pages) → ((n : ℕ) → Checklist B n → ⊥) → files_of B ≡ none
no-files B f = go (files_of B) refl
  where
    go : (o : Option ℕ) → files_of B ≡ o → files_of B ≡ none
    go none e = e
    go (some n) e = absurd (f n (checklist-of B n e))

-- Pages of which one is muted are a checklist of no number of files (request #108).
pub muted-no-files :
    (B : Pages) (s : ℕ) (p : Page) → get_or B s none ≡ some p → p.muted ≡ true → files_of B ≡ none
muted-no-files B s p e m = no-files B (λ n C. clash m (unmuted-page B C.unmuted s p e))

-- A file on the list is one of at most 60.
pub on-list-few :
    (B : Pages) (n i : ℕ) → files_of B ≡ some n → on_list (some n) i ≡ true → (1 ≤ i) × (i ≤ most_files)
on-list-few B n i e l =
    let b = on-list-between n i l in
    (b.0, omega (arith, b.1, (checklist-of B n e).high))
