-- No rule in two slots. Assumes nothing.
use Rattle.std.specs.Prelude.{ℕ, ◌≡◌}
use Rattle.theory.specs.Rules.{Rule, Program, Held}

-- No rule stands in two slots. (Where every list ascends, rules that are the same are equal: the law `ascending-same`.)
abbrev pub Single : Program → Type 0
Single P = (s t : ℕ) (r : Rule) → Held P s r → Held P t r → s ≡ t
