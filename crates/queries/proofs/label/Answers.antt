-- `queries::label` meets its contract. Assumes nothing.
use mathlib.Core.Path.{refl}
use Rattle.std.proofs.lemmas.Result.{err_from_is_err_and}
use Rattle.table.specs.Words.{table_of}
use Rattle.calls.proofs.Asking.{ask-passed, label-refused}
use Rattle.queries.proofs.Ends.{label-ends}
use Rattle.queries.proofs.label.Goals as goal

pub returns-in_err-a : goal.returns-in_err-a
returns-in_err-a c =
    let t = table_of c.args.table.now in
    let p = err_from_is_err_and c.from_residual.result c.from_residual.ensures.1 in
    rw (p.1, p.2) (label-refused t c.args.atom _ c.in_err-a.ensures _ refl)

-- Where each question is answered yes, what is told
-- is the label that the slots keep.
pub returns : goal.returns
returns c =
    let t = table_of c.args.table.now in
    label-ends t c.args.atom _ c.label_of.result (ask-passed t _ _ c.in_ok-a.ensures _ refl) c.label_of.ensures
