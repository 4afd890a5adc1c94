-- What a list call counts lies within the list that was lent. Assumes nothing.
use Prim.Native.Nat.{ℕ, ◌≤◌}
use native.Mathlib.Omega.{arith}
use mathlib.Core.Path.{◌≡◌, ◌∙◌}
use mathlib.Core.List.{List, ◌++◌}
use lib.ListN.{length, drop, length-append, length-drop}
use Rattle.theory.specs.Models.{AtomSet}
use Rattle.theory.specs.Questions.{Question}
use Rattle.theory.specs.Limits.{document}
use Rattle.table.specs.declared.Table.{Table}
use Rattle.calls.specs.Answers.{ListAnswer}
use Rattle.calls.specs.Ends as contract
use Rattle.calls.specs.Ends.{ListEnds}
use Rattle.sheet_answers.specs.Answers.{Counts}

pub list_counts :
    {qs : List Question} {Is : AtomSet → List ℕ → Type 0} {t : Table} {before after : List ℕ} {a : ListAnswer}
    → length before ≤ document.atoms → ListEnds qs Is t before a after → Counts a after
list_counts few (contract.unsound n) = tt
list_counts few (contract.refused f s q) = tt
list_counts few (contract.short M xs s q m i l) = tt
list_counts {before = before} few (contract.accepted M xs s q m i l) =
    let long : length (xs ++ drop (length xs) before) ≡ length before =
    length-append xs (drop (length xs) before) ∙ omega (arith, l, length-drop (length xs) before) in
    (omega (arith, l, long), omega (arith, l, few))
