-- Laws of numbers that no dependency goes against. Assumes nothing.
use Prim.Native.Nat.{ℕ, ◌+◌, ◌≤◌, ◌<◌}
use native.Mathlib.Omega.{arith}
use mathlib.Core.Path.{◌≡◌, refl, sym, ◌∙◌, ap, subst}
use mathlib.Core.Logic.{◌↔◌, ⊎_elim}
use mathlib.Core.Bool.{true}
use mathlib.Core.List.Memᴰ
use mathlib.Core.List.{List, []}
use mathlib.Core.Option.{none, some, none-ne-some, some-injective}
use lib.Dec.{leb}
use lib.ListN.{length, take, drop, get_or, get_or-eq_default}
use Rattle.theory.specs.Lists.{◌∈◌}
use Rattle.theory.specs.Rules.{Program, Bounded}
use Rattle.theory.specs.Rules as theory
use Rattle.theory.specs.Dependencies.{NegativeCycle}
use Rattle.theory.proofs.Lists.{le-or-lt, leb-le, le-leb}
use Rattle.theory.proofs.Strata.{Strata, strata-acyclic}
use Rattle.table.specs.declared.Rule.{Rule}
use Rattle.table.specs.Rules.{numbers, slot_of, rule_of, program_of, past_rule}
use Rattle.table.proofs.Programs.{program-at, program-length, slot_held, slot_rule}
use Rattle.strata.specs.Needed.{needed, EntriesBelow}
use Rattle.strata.proofs.Numbers.{needed-enough, needed-reached, Reached}
use Rattle.strata.proofs.Walks.{Entry, plain, denied}
use Rattle.loops.specs.Descent.{Descends, DescendsAt, Descending, AtomsBelow}

-- Numbers that no dependency goes against are strata, so there is no negative cycle.
pub descending-strata : (P : Program) (ℓ : ℕ → ℕ) → Descending P ℓ → Strata P ℓ
descending-strata P ℓ D = record { up = λ s r h. (D s r h).up; over = λ s r h. (D s r h).over }

pub descending-acyclic : (P : Program) (ℓ : ℕ → ℕ) → Descending P ℓ → NegativeCycle P → ⊥
descending-acyclic P ℓ D = strata-acyclic P ℓ (descending-strata P ℓ D)

-- A rule descends exactly if its head has what it needs.
module _ (ℓ : ℕ → ℕ) (r : theory.Rule) where
  enough : needed ℓ (some r) ≤ ℓ r.head → Descends ℓ r
  enough l = record {
    up = λ x m. omega (arith, l, needed-enough ℓ r x 0 (plain m));
    over = λ x m. omega (arith, l, needed-enough ℓ r x 1 (denied m));
  }

  weighs : Descends ℓ r → (x w : ℕ) → Entry r x w → w + ℓ x ≤ ℓ r.head
  weighs D x w (plain m) = omega (arith, D.up x m)
  weighs D x w (denied m) = omega (arith, D.over x m)

  needs-no-more : Descends ℓ r → needed ℓ (some r) ≤ ℓ r.head
  needs-no-more D = ⊎_elim
      (λ (e : needed ℓ (some r) ≡ 0). omega arith)
      (λ (t : Reached ℓ r (needed ℓ (some r))). omega (arith, t.sum, weighs D t.atom t.weight t.entry))
      (needed-reached ℓ r)

-- A slot: free, or with a rule that is tested.
module _ (ℓ : ℕ → ℕ) (r : Rule) where
  pub descent :
      (r.state ≡ 0 → ⊥) → (n h : ℕ) → n ≡ needed ℓ (slot_of r) → h ≡ ℓ r.head.0
      → (leb n h ≡ true) ↔ DescendsAt ℓ (slot_of r)
  descent held n h e f =
      let same : n ≡ needed ℓ (some (rule_of r)) = e ∙ ap (needed ℓ) (slot_held r held) in (
        λ t q g. subst (Descends ℓ) (some-injective _ _ (sym (slot_held r held) ∙ g))
            (enough ℓ (rule_of r) (omega (arith, leb-le n h t))),
        λ w. le-leb n h (omega (arith, needs-no-more ℓ (rule_of r) (w (rule_of r) (slot_held r held)))),
      )

-- The atoms of what a slot holds.
module _ (b : ℕ) (r : Rule) (B : AtomsBelow b (slot_of r)) where
  pub entries-of : EntriesBelow b (slot_of r)
  entries-of q h x m = B q h x (Memᴰ.tail m)

  pub head_of : (r.state ≡ 0 → ⊥) → r.head.0 < b
  head_of held = B (rule_of r) (slot_held r held) _ (Memᴰ.head refl)

-- The slots of a table.
module _ (rows : List Rule) where
  pub atoms-of : (b s : ℕ) → Bounded (program_of rows) b → (r : Rule) → r ≡ get_or rows s past_rule
      → AtomsBelow b (slot_of r)
  atoms-of b s B r e q h = B s q (program-at rows s ∙ ap slot_of (sym e) ∙ h)

  -- What is asked of the slots is asked of the program.
  pub descends-slots : (ℓ : ℕ → ℕ) (n : ℕ) → length rows ≡ n
      → ((s : ℕ) → s < n → DescendsAt ℓ (slot_of (get_or rows s past_rule))) ↔ Descending (program_of rows) ℓ
  descends-slots ℓ n long = (
    λ all s q h. ⊎_elim
        (λ (m : length (program_of rows) ≤ s). absurd
        (none-ne-some q (sym (get_or-eq_default (program_of rows) none m) ∙ h)))
        (λ (m : s < length (program_of rows)). all s (omega (arith, long, program-length rows)) q
        (sym (program-at rows s) ∙ h))
        (le-or-lt (length (program_of rows)) s),
    λ D s l q h. D s q (program-at rows s ∙ h),
  )

-- A rule whose code counts no negative entry has none, so that it descends by the numbers 0.
pub positive-descends : (r : Rule) → r.negatives ≡ 0 → DescendsAt (λ a. 0) (slot_of r)
positive-descends r e q h = record {
  up = λ x m. omega arith;
  over = λ x m. absurd (Memᴰ.not-nil (subst (λ (xs : List ℕ). x ∈ xs) (none_left q h) m));
}
  where
    none_left : (q : theory.Rule) → slot_of r ≡ some q → q.negatives ≡ []
    none_left q h = ap (λ (p : theory.Rule). p.negatives) (sym (slot_rule r q h))
        ∙ ap (λ n. numbers (take n (drop r.positives r.entries))) e
