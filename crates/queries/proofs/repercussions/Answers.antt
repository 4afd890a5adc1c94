-- `queries::repercussions` meets its contract. Assumes nothing.
use mathlib.Core.Path.{refl}
use Rattle.theory.specs.Rules.{active}
use Rattle.theory.specs.Explanations.{Repercussion}
use Rattle.std.proofs.lemmas.Result.{err_from_is_err_and}
use Rattle.table.specs.Words.{table_of}
use Rattle.calls.specs.Ends.{held}
use Rattle.calls.proofs.Asking.{ask-passed}
use Rattle.queries.proofs.Ends.{active-low, flags-admissible, flags-supports, set-refused, set-ends}
use Rattle.queries.proofs.repercussions.Goals as goal

pub reached-requires : goal.reached-requires
reached-requires c =
    let t = table_of c.args.table.now in
    let is_sound = (ask-passed t c.args.atom _ c.in_ok-a.ensures _ refl).sound in
    (active-low t is_sound, flags-supports t is_sound c.arrays_of-k.result c.arrays_of-k.ensures)

pub returns-in_err-a : goal.returns-in_err-a
returns-in_err-a c =
    let t = table_of c.args.table.now in
    let p = err_from_is_err_and c.from_residual.result c.from_residual.ensures.1 in
    rw (p.1, p.2) (set-refused t c.args.atom _ c.in_err-a.ensures (λ M. Repercussion (active (held t)) M) _ refl _)

pub returns : goal.returns
returns c =
    let t = table_of c.args.table.now in
    let passes = ask-passed t c.args.atom _ c.in_ok-a.ensures _ refl in
    set-ends t c.args.atom _ c.in_ok-a.ensures (λ M. Repercussion (active (held t)) M) _ refl _
    (flags-admissible t passes.sound c.arrays_of-k.result c.arrays_of-k.ensures)
    c.reached.result c.reached.ensures _ _ _ c.write_marked.ensures
