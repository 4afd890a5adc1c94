-- The numbers below n that pass a test: which they are, how many, and that they ascend. Assumes nothing.
use Prim.Native.Nat.{ℕ, zero, suc, ◌+◌, ◌≤◌, ◌<◌}
use native.Mathlib.Omega.{arith}
use native.Mathlib.Numerals.{add-one}
use mathlib.Core.Path.{◌≡◌, refl, sym, ◌∙◌, ap}
use mathlib.Core.Logic.{⊎_elim}
use mathlib.Core.Bool.{Bool, true, false}
use mathlib.Core.List.{List, [], ◌∷◌, ◌++◌}
use mathlib.Core.List.Memᴰ
use lib.ListN.{length, length-append}
use Rattle.theory.specs.Lists.{◌∈◌, Sorted, Lists}
use Rattle.theory.proofs.Lists.{clash, le-or-lt}
use Rattle.table.specs.Sets.{member, Flags, one_if}
use Rattle.table.proofs.Entries.{past}
use Rattle.written_lists.specs.Lists.{listed_if, below}

pub below_next : (f : ℕ → Bool) (n : ℕ) → below f (n + 1) ≡ below f n ++ listed_if (f n) n
unfolding below
below_next f n = rw add-one

-- How many there are.

listed-length : (b : Bool) (x : ℕ) → length (listed_if b x) ≡ one_if b
listed-length true x = refl
listed-length false x = refl

one-most : (b : Bool) → one_if b ≤ 1
one-most true = omega arith
one-most false = omega arith

pub at_most_one : {k : ℕ} (b : Bool) → k ≡ one_if b → k ≤ 1
at_most_one b e = rw e (one-most b)

pub next-length : (f : ℕ → Bool) (n : ℕ) → length (below f (n + 1)) ≡ length (below f n) + one_if (f n)
next-length f n =
    ap length (below_next f n) ∙ length-append (below f n) (listed_if (f n) n)
    ∙ ap (λ k. length (below f n) + k) (listed-length (f n) n)

pub length_none : (f : ℕ → Bool) → 0 ≡ length (below f 0)
unfolding below
length_none f = refl

suc-length : (f : ℕ → Bool) (n : ℕ) → length (below f (suc n)) ≡ length (below f n) + one_if (f n)
suc-length f n = rw add-one at (next-length f n)

pub below_length : (f : ℕ → Bool) (n : ℕ) → length (below f n) ≤ n
below_length f zero = omega (arith, length_none f)
below_length f (suc n) = omega (arith, suc-length f n, below_length f n, one-most (f n))

-- Tests that agree below n have the same length; so has a test and the two that it is split into.
pub below-same : (f g : ℕ → Bool) (n : ℕ) → ((x : ℕ) → x < n → f x ≡ g x) → length (below f n) ≡ length (below g n)
below-same f g zero h = sym (length_none f) ∙ length_none g
below-same f g (suc n) h =
    omega (
      arith,
      suc-length f n,
      suc-length g n,
      below-same f g n (λ x l. h x (omega arith)),
      ap one_if (h n (omega arith)),
    )

pub below_split :
    (f g h : ℕ → Bool) (n : ℕ) → ((x : ℕ) → one_if (h x) ≡ one_if (f x) + one_if (g x))
    → length (below h n) ≡ length (below f n) + length (below g n)
below_split f g h zero e = omega (arith, length_none f, length_none g, length_none h)
below_split f g h (suc n) e =
    omega (arith, suc-length f n, suc-length g n, suc-length h n, below_split f g h n e, e n)

pub below_none : (f : ℕ → Bool) (n : ℕ) → ((x : ℕ) → f x ≡ false) → length (below f n) ≡ 0
below_none f zero e = sym (length_none f)
below_none f (suc n) e = omega (arith, suc-length f n, below_none f n e, ap one_if (e n))

listed_at : (b : Bool) (n x : ℕ) → x ∈ listed_if b n → (x ≡ n) × (b ≡ true)
listed_at true n x m = ⊎_elim
    (λ (e : x ≡ n). (e, refl)) (λ (i : x ∈ []). absurd (Memᴰ.not-nil i)) (Memᴰ.cases_cons m)
listed_at false n x m = absurd (Memᴰ.not-nil m)

listed_of : (b : Bool) (n x : ℕ) → x ≡ n → b ≡ true → x ∈ listed_if b n
listed_of b n x e t = rw t (Memᴰ.head e)

pub below_at : (f : ℕ → Bool) (n x : ℕ) → x ∈ below f n → (x < n) × (f x ≡ true)
unfolding below
below_at f zero x m = absurd (Memᴰ.not-nil m)
below_at f (suc n) x m = ⊎_elim
    (λ (i : x ∈ below f n). (let w = below_at f n x i in (omega (arith, w.0), w.1)))
    (λ (i : x ∈ listed_if (f n) n). (let w = listed_at (f n) n x i in (omega (arith, w.0), ap f w.0 ∙ w.1)))
    (Memᴰ.append_cases (below f n) m)

pub below_of : (f : ℕ → Bool) (n x : ℕ) → x < n → f x ≡ true → x ∈ below f n
unfolding below
below_of f zero x l t = absurd (omega arith)
below_of f (suc n) x l t = ⊎_elim
    (λ (i : n ≤ x). (let e : x ≡ n = omega arith in
    Memᴰ.append_right (below f n) (listed_of (f n) n x e (ap f (sym e) ∙ t))))
    (λ (i : x < n). Memᴰ.append_left (listed_if (f n) n) (below_of f n x i t))
    (le-or-lt n x)

-- Sorted lists, one after the other.
pub sorted-append :
    (B : ℕ → ℕ → Type 0) (xs ys : List ℕ) → Sorted B xs → Sorted B ys → ((x y : ℕ) → x ∈ xs → y ∈ ys → B x y)
    → Sorted B (xs ++ ys)
sorted-append B [] ys S T f = T
sorted-append B (x ∷ xs) ys S T f = (
  λ y m. ⊎_elim
      (λ (i : y ∈ xs). S.0 y i) (λ (i : y ∈ ys). f x y (Memᴰ.head refl) i) (Memᴰ.append_cases xs m),
  sorted-append B xs ys S.1 T (λ z y m i. f z y (Memᴰ.tail m) i),
)

listed-sorted : (B : ℕ → ℕ → Type 0) (b : Bool) (n : ℕ) → Sorted B (listed_if b n)
listed-sorted B true n = (λ y m. absurd (Memᴰ.not-nil m), tt)
listed-sorted B false n = tt

-- A list of numbers below n is in any order that two of its numbers are in where the first is smaller.
pub below-sorted :
    (B : ℕ → ℕ → Type 0) (f : ℕ → Bool) (n : ℕ)
    → ((x y : ℕ) → f x ≡ true → f y ≡ true → y < n → x < y → B x y) → Sorted B (below f n)
unfolding below
below-sorted B f zero h = tt
below-sorted B f (suc n) h =
    sorted-append B (below f n) (listed_if (f n) n)
    (below-sorted B f n (λ x y t u l i. h x y t u (omega arith) i)) (listed-sorted B (f n) n)
    (λ x y m i. (
    let v = below_at f n x m in
    let w = listed_at (f n) n y i in
    h x y v.1 (ap f w.0 ∙ w.1) (omega (arith, w.0)) (omega (arith, v.0, w.0))))

-- The places of the true flags are the set that the flags give.
pub flags-list : (flags : List Bool) (P : ℕ → Type 0) → Flags flags P → Lists (below (member flags) (length flags)) P
flags-list flags P F = record {
  ascending = below-sorted (λ x y. x < y) (member flags) (length flags) (λ x y t u l i. i);
  exactly = λ x. (
    λ m. (F x).0 (below_at (member flags) (length flags) x m).1,
    λ p. (let t = (F x).1 p in below_of (member flags) (length flags) x (place x t) t),
  );
}
  where
    place : (x : ℕ) → member flags x ≡ true → x < length flags
    place x t = ⊎_elim
        (λ (l : length flags ≤ x). absurd (clash t (sym (past flags x false l))))
        (λ (l : x < length flags). l)
        (le-or-lt (length flags) x)
