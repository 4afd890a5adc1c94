-- Small tables whose rounds are worked by hand: a round sees what it has added, a layer's last round adds none, and
-- layers come one after another. Assumes nothing.
use Prim.Native.Nat.{ℕ, zero, suc, ◌+◌, ◌≤◌, ◌<◌}
use native.Mathlib.Omega.{arith}
use mathlib.Core.Path.{◌≡◌, refl, sym, subst}
use mathlib.Core.Bool.{false}
use mathlib.Core.List.Memᴰ
use mathlib.Core.List.{List, [], ◌∷◌}
use mathlib.Core.Logic.{⊎_elim}
use mathlib.Core.Option.{Option, none, some, map, none-ne-some, some-injective}
use lib.ListN.{replicate}
use Rattle.theory.specs.Lists.{◌∈◌, every}
use Rattle.theory.specs.Rules.{active, all, Held, Page, Pages, Program, Rule}
use Rattle.theory.specs.Models.{AtomSet, valid}
use Rattle.theory.specs.Dependencies.{DependencyPath, here, negative, Negatively, positive, Stratum}
use Rattle.theory.specs.Rounds.{adds, again, final, fires, FoundBelow, next_stratum, no_stratum, nothing}
use Rattle.theory.specs.Rounds.{of_stratum, Rounds, RoundsOf, RoundsTold, sweep, visit}
use Rattle.theory.proofs.Strata.{Strata, strata-exact, stratum-unique}

-- The rule of a head and two lists.
abbrev rule : ℕ → List ℕ → List ℕ → Option Rule
rule h ps ns = some (record { head = h; positives = ps; negatives = ns })

-- One layer. All atoms are of layer 0, and none is found at first: so many rounds lead to a set.
abbrev Found : Program → ℕ → Type 0
Found P n = (M : AtomSet) × Rounds P (λ a. 0) 0 (λ a. false) n M

-- 2 from 1, along the slots: what slot 0 adds is seen by slot 1 in the same round.
pub along-slots : Found (rule 1 [] [] ∷ rule 2 (1 ∷ []) [] ∷ []) 2
unfolding adds fires visit sweep valid every
along-slots = (_, again refl (final refl))

-- Against the slots it takes a round more.
pub against-slots : Found (rule 2 (1 ∷ []) [] ∷ rule 1 [] [] ∷ []) 3
unfolding adds fires visit sweep valid every
against-slots = (_, again refl (again refl (final refl)))

-- Atoms that only support each other are never found.
pub round-about : Found (rule 1 (2 ∷ []) [] ∷ rule 2 (1 ∷ []) [] ∷ []) 1
unfolding adds fires visit sweep valid every
round-about = (_, final refl)

-- The empty table, of n free slots, has one layer, and that has one round.
abbrev free_pages : ℕ → Pages
free_pages n = replicate n none

abbrev free_slots : ℕ → Program
free_slots n = all (free_pages n)

none_held : (n s : ℕ) (r : Rule) → Held (free_slots n) s r → ⊥
none_held zero s r h = none-ne-some r h
none_held (suc n) zero r h = none-ne-some r h
none_held (suc n) (suc s) r h = none_held n s r h

none-added : (n : ℕ) → adds (λ a. 0) 0 (λ a. false) (active (free_pages n)) ≡ false
unfolding adds fires visit
none-added zero = refl
none-added (suc n) = none-added n

module _ (n : ℕ) where
  empty-stratum : (a : ℕ) → Stratum (free_slots n) a 0
  empty-stratum a = record { end = a; path = here refl; most = λ c j w. short w }
    where
      short : {a c j : ℕ} → DependencyPath (free_slots n) a c j → j ≤ 0
      short (here e) = omega arith
      short (positive w v) = absurd (none_held n w.slot w.rule w.held)
      short (negative w v) = absurd (none_held n w.slot w.rule w.held)

  pub empty-rounds : RoundsTold (free_pages n) 0 1
  empty-rounds = of_stratum 0 (empty-stratum 0) (record {
    stratum = λ a. 0;
    exact = empty-stratum;
    before = λ a. false;
    after = λ a. false;
    below = nothing;
    rounds = final (none-added n);
  })

  pub empty-others : (k : ℕ) → RoundsTold (free_pages n) (suc k) 0
  empty-others k = no_stratum (λ a S. omega (arith, stratum-unique (free_slots n) a 0 (suc k) (empty-stratum a) S))

-- Three layers: 1 is a fact; 2 unless 1; 3 unless 2. So 1 is in, 2 is out and 3 is in.
abbrev page : Option Rule → Option Page
page = map (λ r. record { rule = r; muted = false })

abbrev three_pages : Pages
three_pages = page (rule 1 [] []) ∷ page (rule 2 [] (1 ∷ [])) ∷ page (rule 3 [] (2 ∷ [])) ∷ []

abbrev three : Program
three = all three_pages

abbrev layer : ℕ → ℕ
layer zero = 0
layer (suc zero) = 0
layer (suc (suc zero)) = 1
layer (suc (suc (suc zero))) = 2
layer (suc (suc (suc (suc n)))) = 0

-- Slot s holds a rule without positive entries, and its negative entries lie below its head.
Fits : Rule → Type 0
Fits r = (r.positives ≡ []) × ((x : ℕ) → x ∈ r.negatives → layer x < layer r.head)

only : (x y : ℕ) → layer y < layer x → (z : ℕ) → z ∈ y ∷ [] → layer z < layer x
only x y l z m = ⊎_elim
    (λ (e : z ≡ y). subst (λ (w : ℕ). layer w < layer x) (sym e) l)
    (λ (m' : z ∈ []). absurd (Memᴰ.not-nil m'))
    (Memᴰ.cases_cons m)

three-fits : (s : ℕ) (r : Rule) → Held three s r → Fits r
unfolding Fits
three-fits zero r h = subst Fits (some-injective _ r h) (refl, λ x m. absurd (Memᴰ.not-nil m))
three-fits (suc zero) r h = subst Fits (some-injective _ r h) (refl, only 2 1 (omega arith))
three-fits (suc (suc zero)) r h = subst Fits (some-injective _ r h) (refl, only 3 2 (omega arith))
three-fits (suc (suc (suc s))) r h = absurd (none-ne-some r h)

three-strata : Strata three layer
unfolding Fits
three-strata = record {
  up = λ s r h x m. absurd (Memᴰ.not-nil (subst (λ (xs : List ℕ). x ∈ xs) (three-fits s r h).0 m));
  over = λ s r h x m. (three-fits s r h).1 x m;
}

two-unless : Negatively three 2 1
two-unless = record { slot = 1; rule = _; held = refl; heads = refl; entry = Memᴰ.head refl }

three-unless : Negatively three 3 2
three-unless = record { slot = 2; rule = _; held = refl; heads = refl; entry = Memᴰ.head refl }

three-exact : (a : ℕ) → Stratum three a (layer a)
three-exact zero = strata-exact three layer three-strata 0 0 (here refl)
three-exact (suc zero) = strata-exact three layer three-strata 1 1 (here refl)
three-exact (suc (suc zero)) = strata-exact three layer three-strata 2 1 (negative two-unless (here refl))
three-exact (suc (suc (suc zero))) =
    strata-exact three layer three-strata 3 1 (negative three-unless (negative two-unless (here refl)))
three-exact (suc (suc (suc (suc n)))) = strata-exact three layer three-strata _ _ (here refl)

-- Layer 0 finds 1, layer 1 nothing, layer 2 finds 3.
abbrev found_first : AtomSet
found_first = sweep layer 0 (λ a. false) three

first-rounds : Rounds three layer 0 (λ a. false) 2 found_first
unfolding adds fires visit sweep valid every
first-rounds = again refl (final refl)

second-rounds : Rounds three layer 1 found_first 1 found_first
unfolding adds fires visit sweep valid every
second-rounds = final refl

third-rounds : Rounds three layer 2 found_first 2 (sweep layer 2 found_first three)
unfolding adds fires visit sweep valid every
third-rounds = again refl (final refl)

low : (a : ℕ) → layer a ≤ 2
low zero = omega arith
low (suc zero) = omega arith
low (suc (suc zero)) = omega arith
low (suc (suc (suc zero))) = omega arith
low (suc (suc (suc (suc n)))) = omega arith

of_three : {k n : ℕ} {M N : AtomSet} → FoundBelow three layer k M → Rounds three layer k M n N
    → RoundsOf three_pages k n
of_three B R = record { stratum = layer; exact = three-exact; before = _; after = _; below = B; rounds = R }

pub three-rounds : RoundsTold three_pages 0 2 × RoundsTold three_pages 1 1 × RoundsTold three_pages 2 2
    × ((k : ℕ) → RoundsTold three_pages (3 + k) 0)
three-rounds = (
  of_stratum 1 (three-exact 1) (of_three nothing first-rounds),
  of_stratum 2 (three-exact 2) (of_three (next_stratum nothing first-rounds) second-rounds),
  of_stratum 3 (three-exact 3)
      (of_three (next_stratum (next_stratum nothing first-rounds) second-rounds) third-rounds),
  (λ k. no_stratum (λ a S. omega (arith, low a, stratum-unique three a (layer a) (3 + k) (three-exact a) S))),
)
