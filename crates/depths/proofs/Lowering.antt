-- The tests of a slot that may lower the number of its head, one after another. Assumes nothing.
use Prim.Native.Nat.{ℕ, suc, ◌≤◌, ◌<◌}
use native.Mathlib.Omega.{arith}
use mathlib.Core.Path.{◌≡◌, refl, sym, ◌∙◌, ap}
use mathlib.Core.Bool.{Bool, true, false, true≢false}
use mathlib.Core.Logic.{◌⊎◌, inl, inr, ◌↔◌}
use mathlib.Core.List.{List}
use mathlib.Core.Option.{none-ne-some}
use lib.Dec.{ltb}
use lib.ListN.{set}
use Rattle.theory.specs.Lists.{every}
use Rattle.theory.specs.Rules as theory
use Rattle.theory.specs.Models.{AtomSet, valid}
use Rattle.theory.specs.Certificate.{level}
use Rattle.theory.proofs.Lists.{clash, lt-ltb, ltb-lt}
use Rattle.table.specs.declared.Rule.{Rule}
use Rattle.table.specs.Rules.{active_in, rule_of}
use Rattle.table.specs.Sets.{number}
use Rattle.table.proofs.Programs.{active-none, active-some, active-rule}
use Rattle.depths.specs.Numbers.{within}
use Rattle.depths.specs.Passes.{Lowers, Lowered}

-- A number falls if it is 0, and else if it is above the new one.
pub falls-none : (x v : ℕ) → x ≡ 0 → (true ≡ true) ↔ ((x ≡ 0) ⊎ (v < x))
falls-none x v e = ((λ t. inl e), (λ t. refl))

pub falls-by : (x v : ℕ) → (x ≡ 0 → ⊥) → (ltb v x ≡ true) ↔ ((x ≡ 0) ⊎ (v < x))
falls-by x v e = ((λ t. inr (ltb-lt v x t)), (λ t. elim t [ inl z ↦ absurd (e z) | inr z ↦ lt-ltb v x z ]))

module _ (M : AtomSet) (n : ℕ) (r : Rule) (before : List ℕ) where
  abbrev Lower : Type 0
  Lower = Lowers M (number before) n (active_in r) r.head.0

  abbrev Kept : Type 0
  Kept = Lowered M n (active_in r) r.head.0 before before false

  stays : (Lower → ⊥) → Kept
  stays not = record { lower = λ t. absurd (true≢false (sym t)); kept = λ t. (not, refl) }

  pub lower-none : (r.state ≡ 1 → ⊥) → Kept
  lower-none e = stays (λ w. none-ne-some w.rule (sym (active-none r e) ∙ w.held))

  module _ (held : r.state ≡ 1) where
    -- what holds of the rule that the slot holds
    same : {A : Type 0} (f : theory.Rule → A) (w : Lower) → f w.rule ≡ f (rule_of r)
    same f w = ap f (sym (active-rule r w.rule w.held))

    pub lower-unknown : every (within (number before) (suc n)) (rule_of r).positives ≡ false → Kept
    lower-unknown e =
        stays (λ w. clash
        (sym (same (λ (q : theory.Rule). every (within (number before) (suc n)) q.positives) w) ∙ w.known) e)

    module _ (v : ℕ) (is : v ≡ level (number before) (rule_of r)) where
      pub lower_high : n < v → Kept
      lower_high l = stays (λ w. omega (arith, same (level (number before)) w, w.low))

      module _ (x : ℕ) (told : x ≡ number before r.head.0) (t : Bool)
          (test : (t ≡ true) ↔ ((x ≡ 0) ⊎ (v < x))) where
        pub lower-same : t ≡ false → Kept
        lower-same e = stays (λ w. elim w.less [
          | inl z ↦ clash (test.1 (inl (told ∙ z))) e
          | inr z ↦ clash (test.1 (inr (omega (arith, same (level (number before)) w)))) e
        ])

        pub lower-invalid : valid M (rule_of r) ≡ false → Kept
        lower-invalid e = stays (λ w. clash (sym (same (valid M) w) ∙ w.good) e)

        pub lower-new :
            every (within (number before) (suc n)) (rule_of r).positives ≡ true → v ≤ n → t ≡ true
            → valid M (rule_of r) ≡ true → (after : List ℕ) → after ≡ set before r.head.0 v
            → Lowered M n (active_in r) r.head.0 before after true
        lower-new known low e good after s = record {
          lower = λ u. (
            record {
              rule = rule_of r;
              held = active-some r held;
              good = good;
              known = known;
              low = omega arith;
              less = elim (test.0 e) [ inl z ↦ inl (sym told ∙ z) | inr z ↦ inr (omega arith) ];
            },
            s ∙ ap (set before r.head.0) is,
          );
          kept = λ u. absurd (true≢false u);
        }
