-- Laws of programs, held rules and valid rules. Assumes nothing.
use Prim.Native.Nat.{ℕ, zero, suc}
use mathlib.Core.Path.{◌≡◌, refl, sym, ◌∙◌, ap}
use mathlib.Core.Logic.{⊎_elim}
use mathlib.Core.Bool.{Bool, true, false, not, true≢false}
use mathlib.Core.List.{List, [], ◌∷◌, ◌++◌, Memᴰ}
use mathlib.Core.Option.{Option, none, some, some-injective, none-ne-some}
use Rattle.theory.specs.Lists.{◌∈◌, any, every}
use Rattle.theory.specs.Rules.{any_rule, entries, Held, Occurs, passes, Program, Rule}
use Rattle.theory.specs.Models.{AtomSet, valid}
use Rattle.theory.specs.Questions.{rules}
use Rattle.theory.specs.Slots.{occurs?}
use Rattle.theory.proofs.Lists.{and_l, and-of, and_r, every-at}
use Rattle.theory.proofs.Lists.{every_of, false-not, in_mem, mem, mem-in, not-true, or_cases, or_l, or_r}

-- A slot that passes a test of rules holds a rule that does.
pub passes_at : (f : Rule → Bool) (o : Option Rule) → passes f o ≡ true → (r : Rule) × (o ≡ some r) × (f r ≡ true)
passes_at f none t = absurd (true≢false (sym t))
passes_at f (some r) t = (r, refl, t)

-- Some rule held passes.

pub any_rule-at : (f : Rule → Bool) (P : Program) → any_rule f P ≡ true
    → (s : ℕ) × (r : Rule) × Held P s r × (f r ≡ true)
unfolding any
any_rule-at f [] h = absurd (true≢false (sym h))
any_rule-at f (none ∷ P) h = let w = any_rule-at f P h in (suc w.0, w.1, w.2, w.3)
any_rule-at f (some r ∷ P) h = ⊎_elim
    (λ (p : f r ≡ true). (zero, r, refl, p))
    (λ (p : any_rule f P ≡ true). (let w = any_rule-at f P p in (suc w.0, w.1, w.2, w.3)))
    (or_cases (f r) (any_rule f P) h)

pub any_rule-of : (f : Rule → Bool) (P : Program) (s : ℕ) (r : Rule) → Held P s r → f r ≡ true → any_rule f P ≡ true
unfolding any
any_rule-of f [] s r h t = absurd (none-ne-some r h)
any_rule-of f (o ∷ P) zero r h t = or_l (passes f o) _ (ap (passes f) h ∙ t)
any_rule-of f (o ∷ P) (suc s) r h t = or_r (passes f o) _ (any_rule-of f P s r h t)

-- A slot holds one rule.
pub held-unique : (P : Program) (s : ℕ) (q r : Rule) → Held P s q → Held P s r → q ≡ r
held-unique P s q r h i = some-injective q r (sym h ∙ i)

-- The list of the rules held has each of them, and no other.

pub rules-of : (P : Program) (s : ℕ) (r : Rule) → Held P s r → Memᴰ r (rules P)
unfolding rules
rules-of [] s r h = absurd (none-ne-some r h)
rules-of (none ∷ P) zero r h = absurd (none-ne-some r h)
rules-of (none ∷ P) (suc s) r h = rules-of P s r h
rules-of (some q ∷ P) zero r h = mathlib.Core.List.Memᴰ.head (sym (some-injective q r h))
rules-of (some q ∷ P) (suc s) r h = mathlib.Core.List.Memᴰ.tail (rules-of P s r h)

pub rules-at : (P : Program) (r : Rule) → Memᴰ r (rules P) → (s : ℕ) × Held P s r
unfolding rules
rules-at [] r m = absurd (mathlib.Core.List.Memᴰ.not-nil m)
rules-at (none ∷ P) r m = let w = rules-at P r m in (suc w.0, w.1)
rules-at (some q ∷ P) r m = ⊎_elim
    (λ (e : r ≡ q). (zero, ap some (sym e)))
    (λ (m' : Memᴰ r (rules P)). (let w = rules-at P r m' in (suc w.0, w.1)))
    (mathlib.Core.List.Memᴰ.cases_cons m)

-- Valid rules.

pub valid-positive : (M : AtomSet) (r : Rule) → valid M r ≡ true → (p : ℕ) → p ∈ r.positives → M p ≡ true
unfolding valid
valid-positive M r t = every-at M r.positives (and_l _ _ t)

pub valid-negative : (M : AtomSet) (r : Rule) → valid M r ≡ true → (n : ℕ) → n ∈ r.negatives → M n ≡ false
unfolding valid
valid-negative M r t n m =
    not-true (M n) (every-at (λ n. not (M n)) r.negatives (and_r (every M r.positives) _ t) n m)

pub valid-of : (M : AtomSet) (r : Rule) → ((p : ℕ) → p ∈ r.positives → M p ≡ true)
    → ((n : ℕ) → n ∈ r.negatives → M n ≡ false) → valid M r ≡ true
unfolding valid
valid-of M r hp hn =
    and-of _ _ (every_of M r.positives hp)
    (every_of (λ n. not (M n)) r.negatives (λ n m. false-not (M n) (hn n m)))

-- An atom occurs, as a test.

pub occurs-at : (P : Program) (a : ℕ) → occurs? P a ≡ true → Occurs P a
unfolding occurs?
occurs-at P a t =
    let w = any_rule-at (λ r. mem a (r.head ∷ entries r)) P t in
    record { slot = w.0; rule = w.1; held = w.2; there = mem-in a _ w.3 }

pub occurs-of : (P : Program) (a : ℕ) → Occurs P a → occurs? P a ≡ true
unfolding occurs?
occurs-of P a o =
    any_rule-of (λ r. mem a (r.head ∷ entries r)) P o.slot o.rule o.held (in_mem a _ o.there)
