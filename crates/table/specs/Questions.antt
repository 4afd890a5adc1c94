-- A call's bare arguments as a rule. Assumes nothing.
use Rattle.std.specs.Prelude.{ℕ, List}
use Rattle.theory.specs.Rules as theory

-- The rule that an addition's arguments name.
abbrev pub rule_from : ℕ → List ℕ → List ℕ → theory.Rule
rule_from head positives negatives = record { head = head; positives = positives; negatives = negatives }
