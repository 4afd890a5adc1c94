-- The contract of the call that tells a rule determines its result. Assumes nothing.
use Rattle.std.specs.Prelude.{Result, Ok, Err}
use Prim.Native.Nat.{ℕ}
use mathlib.Core.Path.{◌≡◌, refl, sym, ◌∙◌, ap}
use mathlib.Core.Option.{some-injective}
use Rattle.theory.specs.Lists.{every}
use Rattle.theory.specs.Rules.{Page, all}
use Rattle.theory.specs.Questions.{slot_questions}
use Rattle.theory.specs.Limits.{document}
use Rattle.table.specs.declared.Table.{Table}
use Rattle.refusals.specs.declared.Refusal.{Refusal}
use Rattle.calls.specs.Ends.{held}
use Rattle.calls.proofs.Determined.{both, refusal-unique}
use Rattle.queries.specs.declared.RuleNumbers.{RuleNumbers}
use Rattle.queries.specs.RuleTold.{accepted, refused, RuleEnds, tell_numbers, unsound}

pub rule-determined :
    (t : Table) (s : ℕ) (x y : Result RuleNumbers Refusal) → RuleEnds t s x → RuleEnds t s y → x ≡ y
unfolding every
rule-determined t s x y (unsound n) (unsound m) = refl
rule-determined t s x y (unsound n) (refused g S e) = absurd (n S)
rule-determined t s x y (unsound n) (accepted q S e h) = absurd (n S)
rule-determined t s x y (refused f S d) (unsound n) = absurd (n S)
rule-determined t s x y (refused f S d) (refused g T e) =
    ap Err (refusal-unique (slot_questions document (all (held t)) s) refl f g d e)
rule-determined t s x y (refused f S d) (accepted q T e h) = absurd (both _ _ d e)
rule-determined t s x y (accepted p S d h) (unsound n) = absurd (n S)
rule-determined t s x y (accepted p S d h) (refused g T e) = absurd (both _ _ e d)
rule-determined t s x y (accepted p S d h) (accepted q T e i) =
    ap (λ (n : Page). Ok (tell_numbers n)) (some-injective p q (sym h ∙ i))
