-- The first entry of a part that passes a test. Private to this crate. Assumes nothing.
use Rattle.std.specs.Prelude.{ℕ, ◌+◌, ◌<◌, ◌≤◌, ◌≡◌, Bool, List, Option, Some, None}
use Rattle.std.proofs.Math.Seq.{slice}
use Rattle.theory.specs.Lists.{before}
use Rattle.table.specs.declared.Atom.{Atom}
use Rattle.table.specs.Rules.{numbers}

-- Where among the entries, from one place to below another, stands the first that passes; None if none does.
abbrev pub FirstAt : (ℕ → Bool) → List Atom → ℕ → ℕ → Option ℕ → Type 0
FirstAt f entries from to None = to ≤ from + before f (numbers (slice from to entries))
FirstAt f entries from to (Some j) = (j < to) × (j ≡ from + before f (numbers (slice from to entries)))
