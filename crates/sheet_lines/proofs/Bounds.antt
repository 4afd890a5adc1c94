-- No line has more than 57 entries: it would take more tokens than 120 bytes can hold. Assumes nothing.
use Prim.Native.Nat.{ℕ, suc, ◌+◌, ◌-◌, ◌≤◌}
use native.Mathlib.Omega.{arith}
use mathlib.Core.Path.{◌≡◌, refl}
use mathlib.Core.Bool.{Bool, true, false, cond}
use mathlib.Core.List.{List, [], ◌∷◌}
use mathlib.Core.Option.{Option, none, some}
use lib.ListN.{length}
use Rattle.tokens.specs.Tokens.{tokens}
use Rattle.tokens.specs.Numerals.{numeral}
use Rattle.tokens.specs.Tokens.{one}
use Rattle.sheet_lines.specs.Commands.{Command, add, remove, replace, why, labels}
use Rattle.sheet_lines.specs.Commands.{consed, numerals, before, after}
use Rattle.sheet_lines.specs.Commands.{made_of_rule, rule_form, in_slot, replacement}
use Rattle.sheet_lines.specs.Commands.{only, made, labels_form, form, command}
use Rattle.sheet_lines.specs.Readings.{LINE, is, positives_of, negatives_of}
use Rattle.tokens.proofs.Tokens.{tokens-bound}

-- As many numbers as tokens.
consed-length : (o : Option ℕ) (p : Option (List ℕ)) (ns : List ℕ) (k : ℕ)
    → ((ms : List ℕ) → p ≡ some ms → length ms ≡ k) → consed o p ≡ some ns → length ns ≡ suc k
consed-length none p ns k f e = absurd (let z : ◌≡◌ {A = ℕ} 0 1 = cc in omega arith)
consed-length (some n) none ns k f e = absurd (let z : ◌≡◌ {A = ℕ} 0 1 = cc in omega arith)
consed-length (some n) (some ms) ns k f e = let q : ns ≡ n ∷ ms = cc in rw q (let h = f ms refl in omega arith)

numerals-length : (ts : List (List ℕ)) (ns : List ℕ) → numerals ts ≡ some ns → length ns ≡ length ts
unfolding numerals
numerals-length [] ns e = let q : ns ≡ [] = cc in rw q
numerals-length (t ∷ ts) ns e = consed-length (numeral t) (numerals ts) ns (length ts) (numerals-length ts) e

parts-length : (ts : List (List ℕ)) → length (before ts) + length (after ts) ≤ length ts
unfolding before after
parts-length [] = omega arith
parts-length (t ∷ ts) = go (one 33 t) refl (parts-length ts)
  where
    go : (b : Bool) → one 33 t ≡ b → length (before ts) + length (after ts) ≤ length ts
        → length (before (t ∷ ts)) + length (after (t ∷ ts)) ≤ suc (length ts)
    go true b h = rw b (omega arith)
    go false b h = rw b (omega arith)

-- The entries of a command, and what makes a command of a rule's entries.
abbrev entries : Command → ℕ
entries c = length (positives_of (is c)) + length (negatives_of (is c))

abbrev OfRule : (ℕ → List ℕ → List ℕ → Command) → Type 0
OfRule f = (h : ℕ) (ps ns : List ℕ) → entries (f h ps ns) ≡ length ps + length ns

module _ (c : Command) where
  module _ (f : ℕ → List ℕ → List ℕ → Command) (same : OfRule f) where
    rule-made : (o : Option ℕ) (p n : Option (List ℕ)) (j k : ℕ) → ((ps : List ℕ) → p ≡ some ps → length ps ≡ j)
        → ((ns : List ℕ) → n ≡ some ns → length ns ≡ k) → made_of_rule f o p n ≡ some c → entries c ≡ j + k
    rule-made none p n j k l m e = absurd (let z : ◌≡◌ {A = ℕ} 0 1 = cc in omega arith)
    rule-made (some h) none n j k l m e = absurd (let z : ◌≡◌ {A = ℕ} 0 1 = cc in omega arith)
    rule-made (some h) (some ps) none j k l m e = absurd (let z : ◌≡◌ {A = ℕ} 0 1 = cc in omega arith)
    rule-made (some h) (some ps) (some ns) j k l m e =
        let q : c ≡ f h ps ns = cc in
        rw q (omega (arith, same h ps ns, l ps refl, m ns refl))

    rule-length : (ts : List (List ℕ)) → rule_form f ts ≡ some c → entries c + 2 ≤ length ts
    unfolding rule_form
    rule-length [] e = absurd (let z : ◌≡◌ {A = ℕ} 0 1 = cc in omega arith)
    rule-length (t ∷ []) e = absurd (let z : ◌≡◌ {A = ℕ} 0 1 = cc in omega arith)
    rule-length (t ∷ s ∷ ts) e = go (one 58 s) e
      where
        go : (b : Bool)
            → cond b (made_of_rule f (numeral t) (numerals (before ts)) (numerals (after ts))) none ≡ some c
            → entries c + 2 ≤ suc (suc (length ts))
        go true e =
            let w = rule-made (numeral t) (numerals (before ts)) (numerals (after ts))
            (length (before ts)) (length (after ts)) (numerals-length (before ts)) (numerals-length (after ts)) e in
            omega (arith, w, parts-length ts)
        go false e = absurd (let z : ◌≡◌ {A = ℕ} 0 1 = cc in omega arith)

  replacement-length : (ts : List (List ℕ)) → replacement ts ≡ some c → entries c + 3 ≤ length ts
  unfolding replacement
  replacement-length [] e = absurd (let z : ◌≡◌ {A = ℕ} 0 1 = cc in omega arith)
  replacement-length (t ∷ ts) e = go (numeral t) e
    where
      go : (o : Option ℕ) → in_slot o ts ≡ some c → entries c + 3 ≤ suc (length ts)
      go none e = absurd (let z : ◌≡◌ {A = ℕ} 0 1 = cc in omega arith)
      go (some s) e = omega (arith, rule-length (replace s) (λ h ps ns. refl) ts e)

  made_none : (f : ℕ → Command) → ((n : ℕ) → entries (f n) ≡ 0) → (o : Option ℕ) → made f o ≡ some c → entries c ≡ 0
  made_none f same none e = absurd (let z : ◌≡◌ {A = ℕ} 0 1 = cc in omega arith)
  made_none f same (some n) e = let q : c ≡ f n = cc in rw q (same n)

  labels-form-none : (ts : List (List ℕ)) → labels_form ts ≡ some c → entries c ≡ 0
  unfolding labels_form
  labels-form-none [] e = let q : c ≡ labels = cc in rw q
  labels-form-none (t ∷ ts) e = absurd (let z : ◌≡◌ {A = ℕ} 0 1 = cc in omega arith)

  form-length : (ts : List (List ℕ)) → form ts ≡ some c → entries c ≤ length ts - 3
  unfolding form
  form-length [] e = absurd (let z : ◌≡◌ {A = ℕ} 0 1 = cc in omega arith)
  form-length (t ∷ ts) e = go (one 65 t) (one 82 t) (one 80 t) (one 87 t) (one 76 t) e
    where
      go : (a r p w l : Bool) → cond a (rule_form add ts)
          (cond r (made remove (only ts))
          (cond p (replacement ts) (cond w (made why (only ts)) (cond l (labels_form ts) none)))) ≡ some c
          → entries c ≤ suc (length ts) - 3
      go true r p w l e = omega (arith, rule-length add (λ h ps ns. refl) ts e)
      go false true p w l e = omega (arith, made_none remove (λ n. refl) (only ts) e)
      go false false true w l e = omega (arith, replacement-length ts e)
      go false false false true l e = omega (arith, made_none why (λ n. refl) (only ts) e)
      go false false false false true e = omega (arith, labels-form-none ts e)
      go false false false false false e = absurd (let z : ◌≡◌ {A = ℕ} 0 1 = cc in omega arith)

  pub entries-most : (line : List ℕ) → length line ≤ LINE → command line ≡ some c → entries c ≤ 57
  unfolding command
  entries-most line l e = omega (arith, form-length (tokens line) e, tokens-bound line)
