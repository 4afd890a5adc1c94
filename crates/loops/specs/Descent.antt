-- Numbers that no dependency goes against: a certificate that there is no negative cycle. Assumes nothing.
use Rattle.std.specs.Prelude.{ℕ, ◌≤◌, ◌<◌, ◌≡◌, ◌∷◌}
use Rattle.std.proofs.Math.Option.{Option, some}
use Rattle.theory.specs.Lists.{◌∈◌}
use Rattle.theory.specs.Rules.{Rule, Program, Held, entries}

-- No positive entry of the rule lies above its head, each negative entry lies below it.
pub record Descends (ℓ : ℕ → ℕ) (r : Rule) : Type 0 where
  pub up : (x : ℕ) → x ∈ r.positives → ℓ x ≤ ℓ r.head
  pub over : (x : ℕ) → x ∈ r.negatives → ℓ x < ℓ r.head

-- The same of what a slot holds, and of every slot.
abbrev pub DescendsAt : (ℕ → ℕ) → Option Rule → Type 0
DescendsAt ℓ slot = (r : Rule) → slot ≡ some r → Descends ℓ r

abbrev pub Descending : Program → (ℕ → ℕ) → Type 0
Descending P ℓ = (s : ℕ) (r : Rule) → Held P s r → Descends ℓ r

-- All atoms of what a slot holds are below n.
abbrev pub AtomsBelow : ℕ → Option Rule → Type 0
AtomsBelow n slot = (r : Rule) → slot ≡ some r → (x : ℕ) → x ∈ r.head ∷ entries r → x < n
