-- Private to the crates that reply: what a list that was lent for a reason has. Assumes nothing.
use Rattle.std.specs.Prelude.{ℕ, ◌≤◌, List, length, Ok, Err}
use Rattle.theory.specs.Limits.{document}
use Rattle.calls.specs.Answers.{ListAnswer}

-- So many entries as the answer counts stand in the list, and at most one for each atom.
abbrev pub Counts : ListAnswer → List ℕ → Type 0
Counts (Ok n) slots = (n ≤ length slots) × (n ≤ document.atoms)
Counts (Err f) slots = Unit {0}
