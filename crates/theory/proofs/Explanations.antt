-- A set written in order determines its list: so do `Lists` and the order of a reason. A set of numbers below a limit
-- has such a list, and a reason of in atoms below a limit is no longer than the limit. Assumes nothing.
use Prim.Native.Nat.{ℕ, zero, suc, ◌+◌, ◌≤◌, ◌<◌}
use native.Mathlib.Omega.{arith}
use mathlib.Core.Path.{◌≡◌, refl, sym, ◌∙◌, ap, ap₂, subst}
use mathlib.Core.Logic.{◌⊎◌, inl, inr, ⊎_elim}
use mathlib.Core.Bool.{Bool, true, false}
use mathlib.Core.List.Memᴰ
use mathlib.Core.List.{List, [], ◌∷◌}
use lib.ListN.{length}
use Rattle.theory.specs.Lists.{◌∈◌, Lists, Sorted}
use Rattle.theory.specs.Rules.{Program}
use Rattle.theory.specs.Models.{AtomSet, valid}
use Rattle.theory.specs.Explanations.{Before, Gathered, asked, onward, Reason, SlotsOf}
use Rattle.theory.proofs.Lists.{clash, le-or-lt, sorted-within, test}
use Rattle.theory.proofs.Rules.{held-unique, valid-positive}
use Rattle.theory.proofs.Depths.{depth-unique}
use Rattle.theory.proofs.Labels.{supporting-unique}

-- Two lists in the order B with the same members are equal, where no two numbers come before each other.
module _ (B : ℕ → ℕ → Type 0) (apart : (x y : ℕ) → B x y → B y x → ⊥) where
  not_first : {x y : ℕ} {xs ys : List ℕ} → Sorted B (x ∷ xs) → Sorted B (y ∷ ys) → x ∈ y ∷ ys → y ∈ x ∷ xs → x ≡ y
  not_first {x} {y} {xs} {ys} S T m n = ⊎_elim
      (λ (e : x ≡ y). e)
      (λ (i : x ∈ ys). ⊎_elim
      (λ (e : y ≡ x). sym e)
      (λ (j : y ∈ xs). absurd (apart x y (S.0 y j) (T.0 x i)))
      (Memᴰ.cases_cons n))
      (Memᴰ.cases_cons m)

  -- what stands behind one head stands behind the other
  behind : {x y : ℕ} {xs ys : List ℕ} → x ≡ y → Sorted B (x ∷ xs) → (z : ℕ) → z ∈ xs → z ∈ y ∷ ys → z ∈ ys
  behind {x} {y} {xs} {ys} e S z m n = ⊎_elim
      (λ (q : z ≡ y). (
      let w : B x z = S.0 z m in
      let v : B x x = subst (λ (u : ℕ). B x u) (q ∙ sym e) w in
      absurd (apart x x v v)))
      (λ (i : z ∈ ys). i)
      (Memᴰ.cases_cons n)

  pub sorted-unique :
      (xs ys : List ℕ) → Sorted B xs → Sorted B ys → ((z : ℕ) → z ∈ xs → z ∈ ys) → ((z : ℕ) → z ∈ ys → z ∈ xs)
      → xs ≡ ys
  sorted-unique [] [] S T f g = refl
  sorted-unique [] (y ∷ ys) S T f g = absurd (Memᴰ.not-nil (g y (Memᴰ.head refl)))
  sorted-unique (x ∷ xs) [] S T f g = absurd (Memᴰ.not-nil (f x (Memᴰ.head refl)))
  sorted-unique (x ∷ xs) (y ∷ ys) S T f g =
      let e : x ≡ y = not_first S T (f x (Memᴰ.head refl)) (g y (Memᴰ.head refl)) in
      ap₂ ◌∷◌ e (sorted-unique xs ys S.1 T.1
      (λ z m. behind e S z m (f z (Memᴰ.tail m)))
      (λ z m. behind (sym e) T z m (g z (Memᴰ.tail m))))

-- The list of the numbers that pass a test, where all are below a limit.
module _ (f : ℕ → Bool) where
  -- of the j numbers from k on, those that pass
  record ListsFrom (k j : ℕ) (xs : List ℕ) : Type 0 where
    ascending : Sorted (λ x y. x < y) xs
    each : (x : ℕ) → x ∈ xs → (f x ≡ true) × (k ≤ x)
    all : (x : ℕ) → f x ≡ true → k ≤ x → x < k + j → x ∈ xs
    few : length xs ≤ j

  list-from : (k j : ℕ) → (xs : List ℕ) × ListsFrom k j xs
  list-from k zero = (
    [],
    record {
      ascending = tt;
      each = λ x m. absurd (Memᴰ.not-nil m);
      all = λ x t l u. absurd (omega arith);
      few = omega arith;
    },
  )
  list-from k (suc j) = (let w = list-from (suc k) j in go w.0 w.1 (test (f k)))
    where
      go : (xs : List ℕ) → ListsFrom (suc k) j xs → (f k ≡ true) ⊎ (f k ≡ false)
          → (ys : List ℕ) × ListsFrom k (suc j) ys
      go xs L (inl t) = (
        k ∷ xs,
        record {
          ascending = ((λ y m. omega (arith, (L.each y m).1)), L.ascending);
          each = λ x m. ⊎_elim
              (λ (e : x ≡ k). (ap f e ∙ t, omega arith))
              (λ (i : x ∈ xs). (let w = L.each x i in (w.0, omega (arith, w.1))))
              (Memᴰ.cases_cons m);
          all = λ x u l b. ⊎_elim
              (λ (i : x ≤ k). (let e : x ≡ k = omega arith in Memᴰ.head e))
              (λ (i : k < x). Memᴰ.tail (L.all x u (omega arith) (omega arith)))
              (le-or-lt x k);
          few = omega (arith, L.few);
        },
      )
      go xs L (inr t) = (
        xs,
        record {
          ascending = L.ascending;
          each = λ x m. (let w = L.each x m in (w.0, omega (arith, w.1)));
          all = λ x u l b. ⊎_elim
              (λ (i : x ≤ k). (let e : k ≡ x = omega arith in absurd (clash (ap f e ∙ u) t)))
              (λ (i : k < x). L.all x u (omega arith) (omega arith))
              (le-or-lt x k);
          few = omega (arith, L.few);
        },
      )

  pub list-below :
      (n : ℕ) → ((x : ℕ) → f x ≡ true → x < n) → (xs : List ℕ) × Lists xs (λ x. f x ≡ true) × (length xs ≤ n)
  list-below n low =
      let w = list-from 0 n in (
        w.0,
        record {
          ascending = w.1.ascending;
          exactly = λ x. ((λ m. (w.1.each x m).0), (λ t. w.1.all x t (omega arith) (omega (arith, low x t))));
        },
        w.1.few,
      )

pub lists-unique : {P : ℕ → Type 0} (xs ys : List ℕ) → Lists xs P → Lists ys P → xs ≡ ys
lists-unique xs ys A B =
    sorted-unique (λ x y. x < y) (λ x y l k. omega arith) xs ys A.ascending B.ascending
    (λ z m. (B.exactly z).1 ((A.exactly z).0 m))
    (λ z m. (A.exactly z).1 ((B.exactly z).0 m))

-- No two atoms come before each other by depth and then by number.
before-apart : (P : Program) (M : AtomSet) (x y : ℕ) → Before P M x y → Before P M y x → ⊥
before-apart P M x y A B = go A.order B.order
  where
    ex : A.dx ≡ B.dy
    ex = depth-unique A.depth_x B.depth_y

    ey : A.dy ≡ B.dx
    ey = depth-unique A.depth_y B.depth_x

    go : (A.dx < A.dy) ⊎ ((A.dx ≡ A.dy) × (x < y)) → (B.dx < B.dy) ⊎ ((B.dx ≡ B.dy) × (y < x)) → ⊥
    go (inl l) (inl k) = omega (arith, ex, ey)
    go (inl l) (inr k) = omega (arith, ex, ey, k.0)
    go (inr l) (inl k) = omega (arith, ex, ey, l.0)
    go (inr l) (inr k) = omega (arith, l.1, k.1)

slots-unique : (P : Program) (M : AtomSet) (xs ss ts : List ℕ) → SlotsOf P M xs ss → SlotsOf P M xs ts → ss ≡ ts
slots-unique P M [] [] [] A B = refl
slots-unique P M [] [] (t ∷ ts) A B = absurd B
slots-unique P M [] (s ∷ ss) ts A B = absurd A
slots-unique P M (x ∷ xs) [] ts A B = absurd A
slots-unique P M (x ∷ xs) (s ∷ ss) [] A B = absurd B
slots-unique P M (x ∷ xs) (s ∷ ss) (t ∷ ts) A B =
    ap₂ ◌∷◌ (supporting-unique P M x s t A.0 B.0) (slots-unique P M xs ss ts A.1 B.1)

-- The order of a reason determines its list.
pub reason-unique : (P : Program) (M : AtomSet) (a : ℕ) (ss ts : List ℕ) → Reason P M a ss → Reason P M a ts → ss ≡ ts
reason-unique P M a ss ts R S =
    let e : R.atoms ≡ S.atoms = sorted-unique (Before P M) (before-apart P M) R.atoms S.atoms R.sorted
    S.sorted
    (λ z m. (S.exactly z).1 ((R.exactly z).0 m))
    (λ z m. (R.exactly z).1 ((S.exactly z).0 m)) in
    slots-unique P M S.atoms ss ts (subst (λ (xs : List ℕ). SlotsOf P M xs ss) e R.supports) S.supports

-- Every atom that is gathered for the reason of an in atom is in.
pub gathered-in : (P : Program) (M : AtomSet) {a x : ℕ} → M a ≡ true → Gathered P M a x → M x ≡ true
gathered-in P M t (asked e) = ap M e ∙ t
gathered-in P M t (onward {y = y} s r g S h m) =
    let w = S.supports in
    let same : w.rule ≡ r = held-unique P s w.rule r w.held h in
    valid-positive M r (ap (valid M) (sym same) ∙ w.good) y m

slots_length : (P : Program) (M : AtomSet) (xs ss : List ℕ) → SlotsOf P M xs ss → length ss ≡ length xs
slots_length P M [] [] A = refl
slots_length P M [] (s ∷ ss) A = absurd A
slots_length P M (x ∷ xs) [] A = absurd A
slots_length P M (x ∷ xs) (s ∷ ss) A = ap suc (slots_length P M xs ss A.1)

-- A reason has at most a slot for each atom below the limit, if every in atom is below it.
pub reason-short :
    (P : Program) (M : AtomSet) (n : ℕ) → ((x : ℕ) → M x ≡ true → x < n) → (a : ℕ) (ss : List ℕ) → M a ≡ true
    → Reason P M a ss → length ss ≤ n
reason-short P M n low a ss t R =
    let w = list-below M n low in
    let l = sorted-within (Before P M) (λ x b. before-apart P M x x b b) w.0 R.atoms R.sorted
    (λ x m. (w.1.exactly x).1 (gathered-in P M t ((R.exactly x).0 m))) in
    omega (arith, l, w.2, slots_length P M R.atoms ss R.supports)
