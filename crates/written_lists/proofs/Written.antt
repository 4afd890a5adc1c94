-- Numbers written one after another into a buffer. Assumes nothing.
use Rattle.std.specs.Prelude.{Ok, Err}
use Prim.Native.Nat.{ℕ, ◌+◌, ◌≤◌, ◌<◌}
use native.Mathlib.Omega.{arith}
use mathlib.Core.Path.{◌≡◌, refl, sym, ◌∙◌, ap, ap₂, subst}
use mathlib.Core.Bool.{Bool, true, false}
use mathlib.Core.List.{List, [], ◌∷◌, ◌++◌, append_assoc, append-nil}
use lib.ListN.{length, drop, set, length-append}
use Rattle.refusals.specs.declared.Refusal.TheVariants.{BufferTooShort}
use Rattle.written_lists.specs.Lists.{listed_if, below}
use Rattle.written_lists.specs.Written.{overwrite, Appends, Written, short, fits}
use Rattle.written_lists.proofs.Lists.{below_next, below_length}

pub overwrite-next :
    (xs buffer : List ℕ) (x : ℕ) → set (overwrite xs buffer) (length xs) x ≡ overwrite (xs ++ (x ∷ [])) buffer
unfolding overwrite
overwrite-next [] [] x = refl
overwrite-next [] (b ∷ buffer) x = refl
overwrite-next (y ∷ xs) [] x = refl
overwrite-next (y ∷ xs) (b ∷ buffer) x = ap (λ ys. y ∷ ys) (overwrite-next xs buffer x)

-- A buffer that is long enough: the numbers, and later entries stay.
pub overwrite-all :
    (xs buffer : List ℕ) → length xs ≤ length buffer → overwrite xs buffer ≡ xs ++ drop (length xs) buffer
unfolding overwrite
overwrite-all [] buffer l = refl
overwrite-all (x ∷ xs) [] l = absurd (omega arith)
overwrite-all (x ∷ xs) (b ∷ buffer) l = ap (λ ys. x ∷ ys) (overwrite-all xs buffer (omega arith))

pub appends-none : (n : ℕ) (buffer : List ℕ) → Appends [] n n buffer buffer
appends-none n buffer =
    record {
      next = omega arith;
      left = λ ys b l e. e ∙ ap (λ zs. overwrite zs b) (sym (append-nil ys));
    }

pub appends-one : (n x : ℕ) (buffer : List ℕ) → Appends (x ∷ []) n (n + 1) buffer (set buffer n x)
appends-one n x buffer =
    record {
      next = refl;
      left = λ ys b l e. ap₂ (λ k zs. set zs k x) l e ∙ overwrite-next ys b x;
    }

pub appends-both :
    {xs ys : List ℕ} {n m r : ℕ} {before now after : List ℕ} → Appends xs n m before now → Appends ys m r now after
    → Appends (xs ++ ys) n r before after
appends-both {xs = xs} {ys = ys} A B =
    record {
      next = omega (arith, A.next, B.next, length-append xs ys);
      left = λ zs b l e.
          B.left (zs ++ xs) b (A.next ∙ ap (λ k. k + length xs) l ∙ sym (length-append zs xs)) (A.left zs b l e)
          ∙ ap (λ us. overwrite us b) (append_assoc zs xs ys);
    }

pub appends-all :
    (xs : List ℕ) (r : ℕ) (before after : List ℕ) → Appends xs 0 r before after → after ≡ overwrite xs before
unfolding overwrite
appends-all xs r before after A = A.left [] before refl refl

-- Writing the numbers below i that pass a test, one after another.
module _ (f : ℕ → Bool) where
  pub appends-start : (n : ℕ) (buffer : List ℕ) → Appends (below f 0) n n buffer buffer
  unfolding below
  appends-start n buffer = appends-none n buffer

  pub appends-next :
      (i n m r : ℕ) (before now after : List ℕ) → Appends (below f i) n m before now
      → Appends (listed_if (f i) i) m r now after → Appends (below f (i + 1)) n r before after
  appends-next i n m r before now after A B =
      subst (λ xs. Appends xs n r before after) (sym (below_next f i)) (appends-both A B)

  -- there are at most as many as numbers
  pub appends-most : (i n m : ℕ) (before now : List ℕ) → Appends (below f i) n m before now → m ≤ n + i
  appends-most i n m before now A = omega (arith, A.next, below_length f i)

-- A number that passes a test b, or none.
module _ (n x : ℕ) (b : Bool) (before after : List ℕ) where
  pub appends-passed : b ≡ false → after ≡ before → Appends (listed_if b x) n n before after
  appends-passed t e = rw (t, e) (appends-none n before)

  pub appends-stored : b ≡ true → after ≡ set before n x → Appends (listed_if b x) n (n + 1) before after
  appends-stored t e = rw (t, e) (appends-one n x before)

-- All of a list was written, or it did not fit.
module _ (xs before : List ℕ) (n : ℕ) (counted : n ≡ length xs) where
  pub written-short : length before < n → Written xs before (Err (BufferTooShort n)) before
  written-short l = rw counted (short (omega arith))

  pub written_all :
      (r : ℕ) (after : List ℕ) → n ≤ length before → Appends xs 0 r before after → Written xs before (Ok n) after
  written_all r after l A =
      let room : length xs ≤ length before = omega arith in
      rw (counted, appends-all xs r before after A ∙ overwrite-all xs before room) (fits room)
