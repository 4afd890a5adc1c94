-- Private: what gathering from an atom adds to a set. Assumes nothing.
use Rattle.std.specs.Prelude.{ℕ, ◌<◌, ◌≡◌, ◌⊎◌, Bool, true, false, List, length}
use Rattle.table.specs.Sets.{member}

-- Steps of S, or none, lead from a to x.
pub data Leads (S : ℕ → ℕ → Type 0) (a : ℕ) : ℕ → Type 0 where
  self : {x : ℕ} → x ≡ a → Leads S a x
  onward : {x y : ℕ} → Leads S a x → S x y → Leads S a y

-- Each step of S leads to a smaller depth.
abbrev pub Falling : (ℕ → ℕ → Type 0) → (ℕ → ℕ) → Type 0
Falling S d = (x y : ℕ) → S x y → d y < d x

-- Gathering from a, of that depth: the set grows by atoms reached from a. It then holds a, and where steps lead to
-- smaller depths, it holds what a step leads to from an atom that came in.
pub record Gathers (S : ℕ → ℕ → Type 0) (d : ℕ → ℕ) (a depth : ℕ) (before after : List Bool) : Type 0 where
  pub long : length after ≡ length before
  pub grows : (x : ℕ) → member before x ≡ true → member after x ≡ true
  pub here : a < length before → member after a ≡ true
  pub only : (x : ℕ) → member after x ≡ true → (member before x ≡ true) ⊎ Leads S a x
  pub closed :
      depth ≡ d a → Falling S d → (x y : ℕ) → member after x ≡ true → member before x ≡ false → S x y
      → y < length before → member after y ≡ true
