-- `loops::acyclic` meets its contract. Assumes nothing.
use Rattle.std.specs.Prelude.{ℕ, ◌≡◌, ◌↔◌, Bool, true, List, Option, Some, None, is_some}
use mathlib.Core.Path.{refl, sym, ◌∙◌}
use mathlib.Core.Bool.{true≢false}
use Rattle.theory.specs.Rules.{Program}
use Rattle.theory.specs.Dependencies.{NegativeCycle}
use Rattle.strata.specs.Answer.{StrataOf}
use Rattle.theory.proofs.Strata.{strata-acyclic, exact-strata}
use Rattle.loops.proofs.Descent.{descending-acyclic}
use Rattle.loops.proofs.acyclic.Goals as goal

pub returns-then-without_negation : goal.returns-then-without_negation
returns-then-without_negation c = (λ t. descending-acyclic _ _ (c.without_negation.ensures c.if-without_negation.true), λ f. refl)

pub returns-then-descends : goal.returns-then-descends
returns-then-descends c = (λ t. descending-acyclic _ _ (c.descends.ensures.0 c.if-descends.true), λ f. refl)

-- A stratum for each atom, and a negative cycle, shut each other out.
decided :
    (P : Program) (s : Option (List ℕ)) (b : Bool) → StrataOf P s → b ≡ is_some s
    → (b ≡ true) ↔ (NegativeCycle P → ⊥)
decided P (Some of) b w e = (λ t. strata-acyclic _ _ (exact-strata _ _ w), λ f. e)
decided P None b w e = (λ t. absurd (true≢false (sym t ∙ e)), λ f. absurd (f w))

pub returns : goal.returns
returns c = decided _ _ _ c.strata.ensures c.is_some.ensures
