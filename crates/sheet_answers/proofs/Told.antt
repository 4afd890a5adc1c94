-- What was written, and what an answer counts, by its case. Assumes nothing.
use Rattle.std.specs.Prelude.{Ok}
use Prim.Native.Nat.{ℕ, ◌≤◌}
use mathlib.Core.Path.{◌≡◌, subst}
use mathlib.Core.List.{List}
use lib.ListN.{length}
use Rattle.theory.specs.Limits.{document}
use Rattle.calls.specs.Answers.{ListAnswer}
use Rattle.fields.specs.Written.{Wrote}
use Rattle.sheet_answers.specs.Answers.{Counts}

pub wrote-same :
    {bs cs before : List ℕ} {at : ℕ} {after : List ℕ} {next : ℕ} → bs ≡ cs → Wrote bs before at after next
    → Wrote cs before at after next
wrote-same {before = before} {at} {after} {next} e w = subst (λ (xs : List ℕ). Wrote xs before at after next) e w

pub counted : (a : ListAnswer) (slots : List ℕ) {n : ℕ} → Counts a slots → a ≡ Ok n
    → (n ≤ length slots) × (n ≤ document.atoms)
counted a slots h e = subst (λ (b : ListAnswer). Counts b slots) e h
