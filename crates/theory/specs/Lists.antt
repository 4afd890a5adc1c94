-- The words about lists of numbers that the definitions use. Assumes nothing.
use Rattle.std.specs.Prelude.{ℕ, zero, suc, min, max, ◌<◌, ◌≡◌, Bool, true, false, not, ◌&&◌, ◌||◌, ◌↔◌, eqb, length, get_or}
use mathlib.Core.List.{List, [], ◌∷◌, Memᴰ}
use Rattle.std.proofs.Math.Option.{Option, none, some}

infix 50 ◌∈◌
-- x stands in the list xs.
abbrev pub ◌∈◌ : ℕ → List ℕ → Type 0
x ∈ xs = Memᴰ x xs

-- Every entry passes the test; some entry passes it.
unfoldable pub every {ℓ} : {A : Type ℓ} → (A → Bool) → List A → Bool
every f [] = true
every f (x ∷ xs) = f x && every f xs

unfoldable pub any {ℓ} : {A : Type ℓ} → (A → Bool) → List A → Bool
any f [] = false
any f (x ∷ xs) = f x || any f xs

-- The first entry that passes the test, if one does.
unfoldable pub first : (ℕ → Bool) → List ℕ → Option ℕ
first f [] = none
first f (x ∷ xs) = elim (f x) [ true ↦ some x | false ↦ first f xs ]

-- How many entries stand before the first that passes the test: its place, from 0.
unfoldable pub before : (ℕ → Bool) → List ℕ → ℕ
before f [] = zero
before f (x ∷ xs) = elim (f x) [ true ↦ zero | false ↦ suc (before f xs) ]

-- At place i of xs, from 0, stands x; it passes the test, and no entry at an earlier place does.
pub record FirstAt (f : ℕ → Bool) (xs : List ℕ) (i x : ℕ) : Type 0 where
  pub low : i < length xs
  pub there : get_or xs i 0 ≡ x
  pub good : f x ≡ true
  pub earlier : (j : ℕ) → j < i → f (get_or xs j 0) ≡ false

-- The greatest of what d gives of the entries, 0 where there is none.
unfoldable pub greatest : (ℕ → ℕ) → List ℕ → ℕ
greatest d [] = zero
greatest d (x ∷ xs) = max (d x) (greatest d xs)

-- No number stands in the list twice.
unfoldable pub distinct : List ℕ → Bool
distinct [] = true
distinct (x ∷ xs) = not (any (eqb x) xs) && distinct xs

-- Two lists hold the same numbers, in whatever order.
unfoldable pub same_members : List ℕ → List ℕ → Bool
same_members xs ys = every (λ x. any (eqb x) ys) xs && every (λ y. any (eqb y) xs) ys

-- A number put into a list that ascends: of two numbers the smaller takes the place, the greater goes on.
unfoldable pub insert : ℕ → List ℕ → List ℕ
insert x [] = x ∷ []
insert x (y ∷ ys) = min x y ∷ insert (max x y) ys

-- The numbers of a list in ascending order.
unfoldable pub sort : List ℕ → List ℕ
sort [] = []
sort (x ∷ xs) = insert x (sort xs)

-- Each entry comes before all that follow.
abbrev pub Sorted : (ℕ → ℕ → Type 0) → List ℕ → Type 0
Sorted B [] = Unit {0}
Sorted B (x ∷ xs) = ((y : ℕ) → y ∈ xs → B x y) × Sorted B xs

-- xs is written ascending, without repeats, and holds exactly the numbers of which P holds.
pub record Lists (xs : List ℕ) (P : ℕ → Type 0) : Type 0 where
  pub ascending : Sorted (λ x y. x < y) xs
  pub exactly : (x : ℕ) → x ∈ xs ↔ P x

-- One or more steps of a relation.
pub data Steps (S : ℕ → ℕ → Type 0) : ℕ → ℕ → Type 0 where
  one : {a c : ℕ} → S a c → Steps S a c
  more : {a x c : ℕ} → S a x → Steps S x c → Steps S a c
