-- Laws of the forms, as a reader meets them that looks at the first token and goes on behind it. Assumes nothing.
use Prim.Native.Nat.{ℕ, suc, ◌+◌}
use native.Mathlib.Omega.{arith}
use mathlib.Core.Path.{◌≡◌, refl, sym}
use mathlib.Core.Bool.{Bool, true, false, cond}
use mathlib.Core.List.{List, [], ◌∷◌}
use mathlib.Core.Option.{Option, none, some}
use lib.ListN.{length}
use lib.Dec.{eqb}
use borrow.Author.Tests.{eqb-true}
use Rattle.tokens.specs.Numerals.{digits, needless, spelled_from, numeral}
use Rattle.tokens.specs.Tokens.{one}
use Rattle.sheet_lines.specs.Commands.{Command, add, remove, replace, why, labels, numerals, before, after}
use Rattle.sheet_lines.specs.Commands.{made_of_rule, rule_form, in_slot, replacement, only, made, labels_form, form}
use Rattle.tokens.specs.Parts.{first_of, rest_of, empty}
use Rattle.sheet_lines.specs.Parts.{leading_numbers, past_numbers, rule_command}

-- A number alone; nothing.

absurd-test : {A : Type 0} → true ≡ false → A
absurd-test e = absurd (let z : ◌≡◌ {A = ℕ} 0 1 = cc in omega arith)

pub only-last : (ts : List (List ℕ)) → empty (rest_of ts) ≡ true → numeral (first_of ts) ≡ only ts
unfolding only numeral
only-last [] e = refl
only-last (t ∷ []) e = refl
only-last (t ∷ u ∷ ts) e = absurd-test (sym e)

pub only-more : (ts : List (List ℕ)) → empty (rest_of ts) ≡ false → none ≡ only ts
unfolding only
only-more [] e = absurd-test e
only-more (t ∷ []) e = absurd-test e
only-more (t ∷ u ∷ ts) e = refl

pub labels-form-last : (ts : List (List ℕ)) → empty ts ≡ true → some labels ≡ labels_form ts
unfolding labels_form
labels-form-last [] e = refl
labels-form-last (t ∷ ts) e = absurd-test (sym e)

pub labels-form-more : (ts : List (List ℕ)) → empty ts ≡ false → none ≡ labels_form ts
unfolding labels_form
labels-form-more [] e = absurd-test e
labels-form-more (t ∷ ts) e = refl

-- The first token of a form decides.

pub form-first : (ts : List (List ℕ)) → cond (one 65 (first_of ts)) (rule_form add (rest_of ts))
    (cond (one 82 (first_of ts)) (made remove (only (rest_of ts)))
    (cond (one 80 (first_of ts)) (replacement (rest_of ts))
    (cond (one 87 (first_of ts)) (made why (only (rest_of ts)))
    (cond (one 76 (first_of ts)) (labels_form (rest_of ts)) none)))) ≡ form ts
unfolding form one
form-first [] = refl
form-first (t ∷ ts) = refl

pub rule-first : (f : ℕ → List ℕ → List ℕ → Command) (ts : List (List ℕ)) → cond (one 58 (first_of (rest_of ts)))
    (made_of_rule f (numeral (first_of ts))
    (numerals (before (rest_of (rest_of ts)))) (numerals (after (rest_of (rest_of ts))))) none
    ≡ rule_form f ts
unfolding rule_form one
rule-first f [] = refl
rule-first f (h ∷ []) = refl
rule-first f (h ∷ c ∷ ts) = refl

pub replacement-first : (ts : List (List ℕ)) → in_slot (numeral (first_of ts)) (rest_of ts) ≡ replacement ts
unfolding replacement numeral
replacement-first [] = refl
replacement-first (s ∷ ts) = refl

module _ (f : ℕ → List ℕ → List ℕ → Command) (ts : List (List ℕ)) where
  abbrev stated : Option Command
  stated = rule_form f ts

  pub rule-no-head : numeral (first_of ts) ≡ none → none ≡ stated
  rule-no-head e = go (one 58 (first_of (rest_of ts))) refl
    where
      go : (b : Bool) → one 58 (first_of (rest_of ts)) ≡ b → none ≡ stated
      go true t = rw (← rule-first f ts, t, e)
      go false t = rw (← rule-first f ts, t)

  pub rule-no-sign : one 58 (first_of (rest_of ts)) ≡ false → none ≡ stated
  rule-no-sign t = rw (← rule-first f ts, t)

  pub rule-is : (h : ℕ) (us : List (List ℕ)) → numeral (first_of ts) ≡ some h → one 58 (first_of (rest_of ts)) ≡ true
      → us ≡ rest_of (rest_of ts) → rule_command f h us ≡ stated
  rule-is h us e t u = rw (← rule-first f ts, t, e, u)

module _ (ts : List (List ℕ)) where
  pub replacement-no-slot : numeral (first_of ts) ≡ none → none ≡ replacement ts
  replacement-no-slot e = rw (← replacement-first ts, e)

  pub replacement-is : (s : ℕ) → numeral (first_of ts) ≡ some s → rule_form (replace s) (rest_of ts) ≡ replacement ts
  replacement-is s e = rw (← replacement-first ts, e)

  -- The first token that is one of the five signs.
  pub form-add : one 65 (first_of ts) ≡ true → rule_form add (rest_of ts) ≡ form ts
  form-add a = rw (← form-first ts, a)

  module _ (a : one 65 (first_of ts) ≡ false) where
    pub form-remove : one 82 (first_of ts) ≡ true → made remove (only (rest_of ts)) ≡ form ts
    form-remove r = rw (← form-first ts, a, r)

    module _ (r : one 82 (first_of ts) ≡ false) where
      pub form-replace : one 80 (first_of ts) ≡ true → replacement (rest_of ts) ≡ form ts
      form-replace p = rw (← form-first ts, a, r, p)

      module _ (p : one 80 (first_of ts) ≡ false) where
        pub form-why : one 87 (first_of ts) ≡ true → made why (only (rest_of ts)) ≡ form ts
        form-why w = rw (← form-first ts, a, r, p, w)

        module _ (w : one 87 (first_of ts) ≡ false) where
          pub form-labels : one 76 (first_of ts) ≡ true → labels_form (rest_of ts) ≡ form ts
          form-labels l = rw (← form-first ts, a, r, p, w, l)

          pub form-none : one 76 (first_of ts) ≡ false → none ≡ form ts
          form-none l = rw (← form-first ts, a, r, p, w, l)

-- The lists: numbers, then the end, or `!` and numbers again.

bang : (t : List ℕ) (n : ℕ) → numeral t ≡ some n → one 33 t ≡ false
unfolding one numeral spelled_from digits needless
bang [] n e = refl
bang (x ∷ y ∷ t) n e = refl
bang (x ∷ []) n e = go (eqb x 33) refl e
  where
    go : (t : Bool) → eqb x 33 ≡ t → numeral (x ∷ []) ≡ some n → eqb x 33 ≡ false
    go true t h =
        let q : x ≡ 33 = eqb-true x 33 t in
        let k : ◌≡◌ {A = Option ℕ} none (some n) = rw q at h in
        absurd (let z : ◌≡◌ {A = ℕ} 0 1 = cc in omega arith)
    go false t h = t

-- A token that is a number goes to the numbers; one that is not ends them.
pub record Advance (ts : List (List ℕ)) (n : ℕ) : Type 0 where
  pub shorter : length ts ≡ suc (length (rest_of ts))
  pub numbers : leading_numbers ts ≡ n ∷ leading_numbers (rest_of ts)
  pub past : past_numbers ts ≡ past_numbers (rest_of ts)

pub advance : (ts : List (List ℕ)) (n : ℕ) → numeral (first_of ts) ≡ some n → Advance ts n
unfolding numeral leading_numbers past_numbers
advance [] n e = absurd (let z : ◌≡◌ {A = ℕ} 0 1 = cc in omega arith)
advance (t ∷ ts) n e = record { shorter = refl; numbers = rw e; past = rw e }

pub record Halt (ts : List (List ℕ)) : Type 0 where
  pub numbers : leading_numbers ts ≡ []
  pub past : past_numbers ts ≡ ts

pub halt : (ts : List (List ℕ)) → numeral (first_of ts) ≡ none → Halt ts
unfolding numeral leading_numbers past_numbers
halt [] e = record { numbers = refl; past = refl }
halt (t ∷ ts) e = record { numbers = rw e; past = rw e }

-- Either all tokens are numbers, or one is left that is none.
pub numerals-all : (ts : List (List ℕ)) → empty (past_numbers ts) ≡ true → numerals ts ≡ some (leading_numbers ts)
unfolding numerals leading_numbers past_numbers
numerals-all [] e = refl
numerals-all (t ∷ ts) e = go (numeral t) refl e (numerals-all ts)
  where
    go : (o : Option ℕ) → numeral t ≡ o → empty (past_numbers (t ∷ ts)) ≡ true
        → (empty (past_numbers ts) ≡ true → numerals ts ≡ some (leading_numbers ts))
        → numerals (t ∷ ts) ≡ some (leading_numbers (t ∷ ts))
    go none o e h = absurd-test (sym (rw o at e))
    go (some n) o e h = rw (o, h (rw o at e))

pub numerals-none : (ts : List (List ℕ)) → empty (past_numbers ts) ≡ false → numerals ts ≡ none
unfolding numerals leading_numbers past_numbers
numerals-none [] e = absurd-test e
numerals-none (t ∷ ts) e = go (numeral t) refl e (numerals-none ts)
  where
    go : (o : Option ℕ) → numeral t ≡ o → empty (past_numbers (t ∷ ts)) ≡ false
        → (empty (past_numbers ts) ≡ false → numerals ts ≡ none) → numerals (t ∷ ts) ≡ none
    go none o e h = rw o
    go (some n) o e h = rw (o, h (rw o at e))

-- The numbers end with the line.
pub record Over (ts : List (List ℕ)) : Type 0 where
  pub positives : numerals (before ts) ≡ some (leading_numbers ts)
  pub negatives : numerals (after ts) ≡ some []

pub over : (ts : List (List ℕ)) → empty (past_numbers ts) ≡ true → Over ts
unfolding numerals before after leading_numbers past_numbers
over [] e = record { positives = refl; negatives = refl }
over (t ∷ ts) e = go (numeral t) refl e (over ts)
  where
    go : (o : Option ℕ) → numeral t ≡ o → empty (past_numbers (t ∷ ts)) ≡ true
        → (empty (past_numbers ts) ≡ true → Over ts) → Over (t ∷ ts)
    go none o e h = absurd-test (sym (rw o at e))
    go (some n) o e h =
        let w = h (rw o at e) in
        let b = bang t n o in
        record { positives = rw (b, o, w.positives); negatives = rw b w.negatives }

-- The numbers end at `!`.
pub record Parted (ts : List (List ℕ)) : Type 0 where
  pub positives : numerals (before ts) ≡ some (leading_numbers ts)
  pub negatives : after ts ≡ rest_of (past_numbers ts)

pub parted : (ts : List (List ℕ)) → one 33 (first_of (past_numbers ts)) ≡ true → Parted ts
unfolding one numerals before after leading_numbers past_numbers
parted [] e = absurd-test (sym e)
parted (t ∷ ts) e = go (numeral t) refl e (parted ts)
  where
    go : (o : Option ℕ) → numeral t ≡ o → one 33 (first_of (past_numbers (t ∷ ts))) ≡ true
        → (one 33 (first_of (past_numbers ts)) ≡ true → Parted ts) → Parted (t ∷ ts)
    go none o e h = let b = rw o at e in record { positives = rw (b, o); negatives = rw (b, o) }
    go (some n) o e h =
        let w = h (rw o at e) in
        let b = bang t n o in
        record { positives = rw (b, o, w.positives); negatives = rw (b, o) w.negatives }

-- The numbers end at a token of another kind.
pub spoiled : (ts : List (List ℕ)) → empty (past_numbers ts) ≡ false → one 33 (first_of (past_numbers ts)) ≡ false
    → numerals (before ts) ≡ none
unfolding numerals before leading_numbers past_numbers
spoiled [] e f = absurd-test e
spoiled (t ∷ ts) e f = go (numeral t) refl e f (spoiled ts)
  where
    go : (o : Option ℕ) → numeral t ≡ o → empty (past_numbers (t ∷ ts)) ≡ false
        → one 33 (first_of (past_numbers (t ∷ ts))) ≡ false
        → (empty (past_numbers ts) ≡ false → one 33 (first_of (past_numbers ts)) ≡ false → numerals (before ts) ≡ none)
        → numerals (before (t ∷ ts)) ≡ none
    go none o e f h = let b = rw o at f in rw (b, o)
    go (some n) o e f h = rw (bang t n o, o, h (rw o at e) (rw o at f))

-- What goes to the numbers and what is left are all the tokens.
pub numbers-length : (ts : List (List ℕ)) → length (leading_numbers ts) + length (past_numbers ts) ≡ length ts
unfolding leading_numbers past_numbers
numbers-length [] = refl
numbers-length (t ∷ ts) = go (numeral t) refl (numbers-length ts)
  where
    go : (o : Option ℕ) → numeral t ≡ o → length (leading_numbers ts) + length (past_numbers ts) ≡ length ts
        → length (leading_numbers (t ∷ ts)) + length (past_numbers (t ∷ ts)) ≡ suc (length ts)
    go none o h = rw o (omega arith)
    go (some n) o h = rw o (omega arith)
