-- From how a load ended, and the bytes that were written, to what is printed. Assumes nothing.
use Rattle.std.specs.Prelude.{Ok}
use Prim.Native.Nat.{ℕ, ◌≤◌}
use native.Mathlib.Omega.{arith}
use mathlib.Core.Path.{◌≡◌, sym, ◌∙◌, ap}
use mathlib.Core.List.{List}
use lib.ListN.{length}
use Rattle.theory.specs.Rules.{all, Bounded}
use Rattle.theory.specs.Limits.{document}
use Rattle.theory.proofs.Questions.{passed-bounded}
use Rattle.table.specs.declared.Table.{Table}
use Rattle.calls.specs.Answers.{ChangeAnswer}
use Rattle.calls.specs.Ends as contract
use Rattle.calls.specs.Ends.{held, LoadEnds}
use Rattle.fields.specs.Written.{Wrote}
use Rattle.sheet_label_lines.specs.LabelLines.{LABELS_ROOM}
use Rattle.file_lines.specs.Loads.{tell_load, LoadWrites, printed}

-- The atoms of a table that was loaded are below the limit.
pub loaded-bounded :
    {file : List ℕ} {x : ChangeAnswer} {u : Table} → LoadEnds file x u → x ≡ Ok tt
    → Bounded (all (held u)) document.atoms
loaded-bounded (contract.refused f e) q = (let z : ◌≡◌ {A = ℕ} 0 1 = cc in absurd (omega arith))
loaded-bounded (contract.accepted u e Z h S) q = passed-bounded document (all (held u)) S.rules.passes

-- The lines that tell how a load ended were written.
pub told-lines :
    {file before after : List ℕ} {n : ℕ} {x : ChangeAnswer} {u : Table} (y : ChangeAnswer) {bs : List ℕ}
    → LABELS_ROOM ≤ length before → LoadEnds file x u → x ≡ y → bs ≡ tell_load y u → Wrote bs before 0 after n
    → LoadWrites file before (Ok n) after
told-lines {x = x} {u = u} y room ends e d wrote =
    printed room
    (record { answer = x; table = u; ends = ends; told = d ∙ ap (λ (z : ChangeAnswer). tell_load z u) (sym e) }) wrote
