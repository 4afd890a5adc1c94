-- Laws of tests, lists and counts. Assumes nothing.
use Prim.Native.Nat.{ℕ, zero, suc, ◌≤◌, ◌<◌}
use native.Mathlib.Omega.{arith}
use native.Mathlib.Decide.{dec_le}
use mathlib.Core.Path.{◌≡◌, refl, sym, ◌∙◌, ap, subst}
use mathlib.Core.Logic.{◌⊎◌, inl, inr, ⊎_elim, ◌↔◌}
use mathlib.Core.Bool.{Bool, true, false, not, ◌&&◌, ◌||◌, true≢false}
use mathlib.Core.List.Memᴰ
use mathlib.Core.List.{List, [], ◌∷◌, Memᴰ}
use mathlib.Core.Option.{Option, none, some, some-injective, none-ne-some}
use lib.Dec.{T, eqb, leb, ltb, eqb→eq, eqb_refl, leb→le, ltb→lt, le→leb, lt→ltb}
use lib.ListN.{length, get_or}
use Rattle.theory.specs.Lists.{◌∈◌, any, before, every, first, FirstAt, Sorted}

-- Tests.

pub and_l : (a b : Bool) → (a && b) ≡ true → a ≡ true
and_l true b t = refl
and_l false b t = t

pub and_r : (a b : Bool) → (a && b) ≡ true → b ≡ true
and_r true b t = t
and_r false b t = cc

pub and-of : (a b : Bool) → a ≡ true → b ≡ true → (a && b) ≡ true
and-of a b t u = cc

pub or_cases : (a b : Bool) → (a || b) ≡ true → (a ≡ true) ⊎ (b ≡ true)
or_cases true b t = inl refl
or_cases false b t = inr t

pub or_l : (a b : Bool) → a ≡ true → (a || b) ≡ true
or_l a b t = cc

pub or_r : (a b : Bool) → b ≡ true → (a || b) ≡ true
or_r true b t = refl
or_r false b t = t

pub or-false-l : (a b : Bool) → (a || b) ≡ false → a ≡ false
or-false-l true b t = t
or-false-l false b t = refl

pub or-false-r : (a b : Bool) → (a || b) ≡ false → b ≡ false
or-false-r true b t = cc
or-false-r false b t = t

pub not-true : (a : Bool) → not a ≡ true → a ≡ false
not-true true t = sym t
not-true false t = refl

pub not-false : (a : Bool) → not a ≡ false → a ≡ true
not-false true t = refl
not-false false t = sym t

pub false-not : (a : Bool) → a ≡ false → not a ≡ true
false-not a t = cc

-- A test passes or fails, never both.
pub test : (a : Bool) → (a ≡ true) ⊎ (a ≡ false)
test true = inl refl
test false = inr refl

pub clash : {a : Bool} → a ≡ true → a ≡ false → ⊥
clash p q = true≢false (sym p ∙ q)

pub unless : (a : Bool) → (a ≡ true → ⊥) → a ≡ false
unless true f = absurd (f refl)
unless false f = refl

pub same_test : (a b : Bool) → (a ≡ true → b ≡ true) → (b ≡ true → a ≡ true) → a ≡ b
same_test true b f g = sym (f refl)
same_test false true f g = g refl
same_test false false f g = refl

-- Numbers compared.

T_true : (a : Bool) → T a → a ≡ true
T_true true t = refl
T_true false t = absurd t

pub eqb-eq : (m n : ℕ) → eqb m n ≡ true → m ≡ n
eqb-eq m n h = eqb→eq m n (subst T (sym h) tt)

pub eqb_of : (m n : ℕ) → m ≡ n → eqb m n ≡ true
eqb_of m n e = ap (eqb m) (sym e) ∙ T_true (eqb m m) (eqb_refl m)

pub eqb-not : (m n : ℕ) → (m ≡ n → ⊥) → eqb m n ≡ false
eqb-not m n f = unless _ (λ t. f (eqb-eq m n t))

pub ltb-lt : (m n : ℕ) → ltb m n ≡ true → m < n
ltb-lt m n t = ltb→lt m n (subst T (sym t) tt)

pub lt-ltb : (m n : ℕ) → m < n → ltb m n ≡ true
lt-ltb m n l = T_true (ltb m n) (lt→ltb m n l)

pub leb-le : (m n : ℕ) → leb m n ≡ true → m ≤ n
leb-le m n t = leb→le m n (subst T (sym t) tt)

pub le-leb : (m n : ℕ) → m ≤ n → leb m n ≡ true
le-leb m n l = T_true (leb m n) (le→leb m n l)

pub le-or-lt : (m n : ℕ) → (m ≤ n) ⊎ (n < m)
le-or-lt m n = go (dec_le m n)
  where
    go : Dec (m ≤ n) → (m ≤ n) ⊎ (n < m)
    go (yes l) = inl l
    go (no l) = inr (omega arith)

-- Every entry, some entry.

module _ {A : Type 0} (f : A → Bool) where
  pub every-at : (xs : List A) → every f xs ≡ true → (x : A) → Memᴰ x xs → f x ≡ true
  unfolding every
  every-at [] t x m = absurd (Memᴰ.not-nil m)
  every-at (y ∷ ys) t x m = ⊎_elim
      (λ (e : x ≡ y). ap f e ∙ and_l (f y) (every f ys) t)
      (λ (m' : Memᴰ x ys). every-at ys (and_r (f y) (every f ys) t) x m')
      (Memᴰ.cases_cons m)

  pub every_of : (xs : List A) → ((x : A) → Memᴰ x xs → f x ≡ true) → every f xs ≡ true
  unfolding every
  every_of [] h = refl
  every_of (y ∷ ys) h = and-of _ _ (h y (Memᴰ.head refl)) (every_of ys (λ x m. h x (Memᴰ.tail m)))

  pub any_at : (xs : List A) → any f xs ≡ true → (x : A) × Memᴰ x xs × (f x ≡ true)
  unfolding any
  any_at [] t = absurd (true≢false (sym t))
  any_at (x ∷ xs) t = ⊎_elim
      (λ (u : f x ≡ true). (x, Memᴰ.head refl, u))
      (λ (u : any f xs ≡ true). (let w = any_at xs u in (w.0, Memᴰ.tail w.1, w.2)))
      (or_cases (f x) (any f xs) t)

  pub any_of : (xs : List A) (x : A) → Memᴰ x xs → f x ≡ true → any f xs ≡ true
  unfolding any
  any_of [] x m t = absurd (Memᴰ.not-nil m)
  any_of (y ∷ ys) x m t = ⊎_elim
      (λ (e : x ≡ y). or_l (f y) _ (ap f (sym e) ∙ t))
      (λ (m' : Memᴰ x ys). or_r (f y) _ (any_of ys x m' t))
      (Memᴰ.cases_cons m)

-- A number stands in a list.
abbrev pub mem : ℕ → List ℕ → Bool
mem x xs = any (eqb x) xs

pub mem-in : (x : ℕ) (xs : List ℕ) → mem x xs ≡ true → x ∈ xs
mem-in x xs t = let w = any_at (eqb x) xs t in subst (λ (y : ℕ). y ∈ xs) (sym (eqb-eq x w.0 w.2)) w.1

pub in_mem : (x : ℕ) (xs : List ℕ) → x ∈ xs → mem x xs ≡ true
in_mem x xs m = any_of (eqb x) xs x m (eqb_of x x refl)

-- The first entry that passes, and its place: by the test of the head, then of the whole list.

module _ (f : ℕ → Bool) where
  pub first-hit : (y : ℕ) (ys : List ℕ) → f y ≡ true → first f (y ∷ ys) ≡ some y
  unfolding first
  first-hit y ys t = rw (t, first)

  pub first-miss : (y : ℕ) (ys : List ℕ) → f y ≡ false → first f (y ∷ ys) ≡ first f ys
  unfolding first
  first-miss y ys t = rw (t, first)

  pub before-hit : (y : ℕ) (ys : List ℕ) → f y ≡ true → before f (y ∷ ys) ≡ 0
  unfolding before
  before-hit y ys t = rw (t, before)

  pub before-miss : (y : ℕ) (ys : List ℕ) → f y ≡ false → before f (y ∷ ys) ≡ suc (before f ys)
  unfolding before
  before-miss y ys t = rw (t, before)

  pub first-none : (xs : List ℕ) → first f xs ≡ none → (x : ℕ) → x ∈ xs → f x ≡ false
  first-none [] e x m = absurd (Memᴰ.not-nil m)
  first-none (y ∷ ys) e x m = ⊎_elim
      (λ (t : f y ≡ true). absurd (none-ne-some y (sym e ∙ first-hit y ys t)))
      (λ (t : f y ≡ false). ⊎_elim (λ (q : x ≡ y). ap f q ∙ t)
      (λ (m' : x ∈ ys). first-none ys (sym (first-miss y ys t) ∙ e) x m') (Memᴰ.cases_cons m))
      (test (f y))

  -- The first entry that passes stands at the place counted.
  pub first-place : (xs : List ℕ) (x : ℕ) → first f xs ≡ some x → FirstAt f xs (before f xs) x
  first-place [] x e = absurd (none-ne-some x (unfold first in e))
  first-place (y ∷ ys) x e = ⊎_elim
      (λ (t : f y ≡ true). (
      let q : y ≡ x = some-injective y x (sym (first-hit y ys t) ∙ e) in
      rw (before-hit y ys t)
      (record { low = omega arith; there = q; good = sym (ap f q) ∙ t; earlier = λ j l. absurd (omega arith) })))
      (λ (t : f y ≡ false). (
      let w = first-place ys x (sym (first-miss y ys t) ∙ e) in
      rw (before-miss y ys t)
      (record {
        low = omega (arith, w.low);
        there = w.there;
        good = w.good;
        earlier = λ j l. after t w j l;
      })))
      (test (f y))
    where
      after :
          f y ≡ false → FirstAt f ys (before f ys) x → (j : ℕ) → j < suc (before f ys)
          → f (get_or (y ∷ ys) j 0) ≡ false
      after t w zero l = t
      after t w (suc j) l = w.earlier j (omega arith)

  -- Where fewer stand before it than the list has, that entry is the first that passes; else none passes.
  pub first-there : (xs : List ℕ) → before f xs < length xs → first f xs ≡ some (get_or xs (before f xs) 0)
  first-there [] l = absurd (omega arith)
  first-there (y ∷ ys) l = ⊎_elim
      (λ (t : f y ≡ true). (rw (before-hit y ys t) (first-hit y ys t)))
      (λ (t : f y ≡ false). (
      let k : before f ys < length ys = omega (arith, before-miss y ys t) in
      rw (before-miss y ys t) (first-miss y ys t ∙ first-there ys k)))
      (test (f y))

  pub first_past : (xs : List ℕ) → length xs ≤ before f xs → first f xs ≡ none
  unfolding first
  first_past [] l = refl
  first_past (y ∷ ys) l = ⊎_elim
      (λ (t : f y ≡ true). absurd (omega (arith, before-hit y ys t)))
      (λ (t : f y ≡ false). (
      let k : length ys ≤ before f ys = omega (arith, before-miss y ys t) in
      first-miss y ys t ∙ first_past ys k))
      (test (f y))

-- An entry stands in its list.
pub entry_in : (xs : List ℕ) (i : ℕ) → i < length xs → get_or xs i 0 ∈ xs
entry_in [] i l = absurd (omega arith)
entry_in (y ∷ ys) zero l = Memᴰ.head refl
entry_in (y ∷ ys) (suc i) l = Memᴰ.tail (entry_in ys i (omega arith))

-- What stands in a list stands at a place of it.
pub in_entry : (xs : List ℕ) (x : ℕ) → x ∈ xs → (i : ℕ) × (i < length xs) × (get_or xs i 0 ≡ x)
in_entry [] x m = absurd (Memᴰ.not-nil m)
in_entry (y ∷ ys) x m = ⊎_elim
    (λ (e : x ≡ y). (0, omega arith, sym e))
    (λ (m' : x ∈ ys). (let w = in_entry ys x m' in (suc w.0, omega (arith, w.1), w.2)))
    (Memᴰ.cases_cons m)

pub first-in : (f : ℕ → Bool) (xs : List ℕ) (i x : ℕ) → FirstAt f xs i x → x ∈ xs
first-in f xs i x w = subst (λ (y : ℕ). y ∈ xs) w.there (entry_in xs i w.low)

-- Where an entry passes, some place is the first; where none passes, there is none; and the first is what it is.

pub first-of-none : (f : ℕ → Bool) (xs : List ℕ) → ((x : ℕ) → x ∈ xs → f x ≡ false) → first f xs ≡ none
unfolding first
first-of-none f [] never = refl
first-of-none f (y ∷ ys) never =
    first-miss f y ys (never y (Memᴰ.head refl)) ∙ first-of-none f ys (λ x m. never x (Memᴰ.tail m))

pub first-exists :
    (f : ℕ → Bool) (xs : List ℕ) (x : ℕ) → x ∈ xs → f x ≡ true → (i y : ℕ) × FirstAt f xs i y
first-exists f xs x m t = go (first f xs) refl
  where
    go : (o : Option ℕ) → first f xs ≡ o → (i y : ℕ) × FirstAt f xs i y
    go none e = absurd (clash t (first-none f xs e x m))
    go (some y) e = (before f xs, y, first-place f xs y e)

pub first_of :
    (f : ℕ → Bool) (xs : List ℕ) (i x : ℕ) → FirstAt f xs i x → (first f xs ≡ some x) × (before f xs ≡ i)
first_of f [] i x w = absurd (omega (arith, w.low))
first_of f (y ∷ ys) zero x w =
    let t : f y ≡ true = ap f w.there ∙ w.good in
    (first-hit f y ys t ∙ ap some w.there, before-hit f y ys t)
first_of f (y ∷ ys) (suc i) x w =
    let t : f y ≡ false = w.earlier 0 (omega arith) in
    let e = first_of f ys i x (record {
      low = omega (arith, w.low);
      there = w.there;
      good = w.good;
      earlier = λ j l. w.earlier (suc j) (omega arith);
    }) in
    (first-miss f y ys t ∙ e.0, before-miss f y ys t ∙ ap suc e.1)

-- How many entries of a list pass a test.

abbrev pub tally : Bool → ℕ → ℕ
tally true k = suc k
tally false k = k

tally-le : (s t : Bool) (j k : ℕ) → (s ≡ true → t ≡ true) → j ≤ k → tally s j ≤ tally t k
tally-le true true j k i h = omega arith
tally-le true false j k i h = absurd (true≢false (sym (i refl)))
tally-le false true j k i h = omega arith
tally-le false false j k i h = omega arith

tally-lt : (s t : Bool) (j k : ℕ) → (s ≡ true → t ≡ true) → j < k → tally s j < tally t k
tally-lt s t j k i h = (let l : tally s (suc j) ≤ tally t k = tally-le s t (suc j) k i h in omega (arith, step s))
  where
    step : (s : Bool) → tally s (suc j) ≡ suc (tally s j)
    step true = refl
    step false = refl

tally-new : (s t : Bool) (j k : ℕ) → s ≡ false → t ≡ true → j ≤ k → tally s j < tally t k
tally-new true t j k p q h = absurd (true≢false p)
tally-new false true j k p q h = omega arith
tally-new false false j k p q h = absurd (true≢false (sym q))

unfoldable pub count : {A : Type 0} → (A → Bool) → List A → ℕ
count f [] = zero
count f (x ∷ xs) = tally (f x) (count f xs)

module _ {A : Type 0} where
  pub count-length : (f : A → Bool) (xs : List A) → count f xs ≤ length xs
  unfolding count
  count-length f [] = omega arith
  count-length f (x ∷ xs) = tally-le (f x) true _ _ (λ i. refl) (count-length f xs)

  -- what passes f passes g: at least as many pass g
  pub count-le : (f g : A → Bool) (xs : List A) → ((x : A) → Memᴰ x xs → f x ≡ true → g x ≡ true)
      → count f xs ≤ count g xs
  unfolding count
  count-le f g [] h = omega arith
  count-le f g (x ∷ xs) h =
      tally-le (f x) (g x) _ _ (h x (Memᴰ.head refl)) (count-le f g xs (λ y m. h y (Memᴰ.tail m)))

  -- and more pass it if some x passes g and not f
  pub count-lt : (f g : A → Bool) (xs : List A) → ((x : A) → Memᴰ x xs → f x ≡ true → g x ≡ true)
      → (x : A) → Memᴰ x xs → f x ≡ false → g x ≡ true → count f xs < count g xs
  unfolding count
  count-lt f g [] h x m p q = absurd (Memᴰ.not-nil m)
  count-lt f g (y ∷ ys) h x m p q = ⊎_elim
      (λ (e : x ≡ y). tally-new (f y) (g y) _ _ (ap f (sym e) ∙ p) (ap g (sym e) ∙ q)
      (count-le f g ys (λ z m'. h z (Memᴰ.tail m'))))
      (λ (m' : Memᴰ x ys). tally-lt (f y) (g y) _ _ (h y (Memᴰ.head refl))
      (count-lt f g ys (λ z i. h z (Memᴰ.tail i)) x m' p q))
      (Memᴰ.cases_cons m)

  -- all pass if none is missing from the count
  pub count-all : (f : A → Bool) (xs : List A) → length xs ≤ count f xs → (x : A) → Memᴰ x xs → f x ≡ true
  count-all f xs l x m = ⊎_elim
      (λ (t : f x ≡ true). t)
      (λ (t : f x ≡ false). absurd (omega (
        arith,
        count-lt f (λ y. true) xs (λ y i u. refl) x m t refl,
        count-length (λ y. true) xs,
      )))
      (test (f x))

-- A list in an order in which no number comes before itself is no longer than any list that has its numbers.
module _ (B : ℕ → ℕ → Type 0) (apart : (x : ℕ) → B x x → ⊥) (ys : List ℕ) where
  within_count : (xs : List ℕ) → Sorted B xs → ((x : ℕ) → x ∈ xs → x ∈ ys) → length xs ≤ count (λ y. mem y xs) ys
  within_count [] S f = omega arith
  within_count (a ∷ xs) S f =
      let i = within_count xs S.1 (λ x m. f x (Memᴰ.tail m)) in
      omega (
        arith,
        count-lt (λ y. mem y xs) (λ y. mem y (a ∷ xs)) ys
            (λ y m t. in_mem y (a ∷ xs) (Memᴰ.tail (mem-in y xs t))) a (f a (Memᴰ.head refl))
            (unless _ (λ t. apart a (S.0 a (mem-in a xs t)))) (in_mem a (a ∷ xs) (Memᴰ.head refl)),
      )

  pub sorted-within : (xs : List ℕ) → Sorted B xs → ((x : ℕ) → x ∈ xs → x ∈ ys) → length xs ≤ length ys
  sorted-within xs S f = omega (arith, within_count xs S f, count-length (λ y. mem y xs) ys)

-- The least number that passes, if s passes.

LeastUpTo : (ℕ → Bool) → ℕ → Type 0
LeastUpTo f k = (x : ℕ) × (x ≤ k) × (f x ≡ true) × ((u : ℕ) → u < x → f u ≡ false)

scan : (f : ℕ → Bool) (k : ℕ) → LeastUpTo f k ⊎ ((x : ℕ) → x ≤ k → f x ≡ false)
unfolding LeastUpTo
scan f zero = ⊎_elim
    (λ (t : f 0 ≡ true). inl (0, omega arith, t, λ u l. absurd (omega arith)))
    (λ (t : f 0 ≡ false). inr (λ x l. (let e : x ≡ 0 = omega arith in ap f e ∙ t)))
    (test (f 0))
scan f (suc k) = ⊎_elim
    (λ (w : LeastUpTo f k). inl (w.0, omega (arith, w.1), w.2, w.3))
    (λ (n : (x : ℕ) → x ≤ k → f x ≡ false). ⊎_elim
    (λ (t : f (suc k) ≡ true). inl (suc k, omega arith, t, λ u l. n u (omega arith)))
    (λ (t : f (suc k) ≡ false). inr (λ x l. ⊎_elim
    (λ (i : x ≤ k). n x i)
    (λ (i : k < x). (let e : x ≡ suc k = omega arith in ap f e ∙ t))
    (le-or-lt x k)))
    (test (f (suc k))))
    (scan f k)

pub least : (f : ℕ → Bool) (s : ℕ) → f s ≡ true
    → (t : ℕ) × (t ≤ s) × (f t ≡ true) × ((u : ℕ) → u < t → f u ≡ false)
unfolding LeastUpTo
least f s h = ⊎_elim
    (λ (w : LeastUpTo f s). w)
    (λ (n : (x : ℕ) → x ≤ s → f x ≡ false). absurd (clash h (n s (omega arith))))
    (scan f s)

-- A place that holds something is one of the list's.
pub some_below : {A : Type 0} (xs : List (Option A)) (i : ℕ) (x : A) → get_or xs i none ≡ some x → i < length xs
some_below [] i x h = absurd (none-ne-some x h)
some_below (o ∷ xs) zero x h = omega arith
some_below (o ∷ xs) (suc i) x h = omega (arith, some_below xs i x h)

-- An answer no is right where the thing is refuted.
pub is_not : {P : Type 0} → (P → ⊥) → (false ≡ true) ↔ P
is_not f = (λ t. absurd (true≢false (sym t)), λ p. absurd (f p))
