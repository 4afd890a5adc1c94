-- `queries::consequences` meets its contract. Assumes nothing.
use mathlib.Core.Path.{refl}
use Rattle.theory.specs.Rules.{all}
use Rattle.theory.specs.Explanations.{Consequence}
use Rattle.std.proofs.lemmas.Result.{err_from_is_err_and}
use Rattle.table.specs.Words.{table_of}
use Rattle.calls.specs.Ends.{held}
use Rattle.calls.proofs.Asking.{ask-passed}
use Rattle.reading.proofs.SoundArrays.{sound-bounded}
use Rattle.queries.proofs.Ends.{set-refused, set-ends}
use Rattle.queries.proofs.consequences.Goals as goal

pub following-requires : goal.following-requires
following-requires c =
    let t = table_of c.args.table.now in
    sound-bounded t (ask-passed t _ _ c.in_ok-a.ensures _ refl).sound

pub returns-in_err-a : goal.returns-in_err-a
returns-in_err-a c =
    let t = table_of c.args.table.now in
    let p = err_from_is_err_and c.from_residual.result c.from_residual.ensures.1 in
    rw (p.1, p.2) (set-refused t c.args.atom _ c.in_err-a.ensures (λ M. Consequence (all (held t))) _ refl _)

pub returns : goal.returns
returns c =
    let t = table_of c.args.table.now in
    let passes = ask-passed t c.args.atom _ c.in_ok-a.ensures _ refl in
    set-ends t c.args.atom _ c.in_ok-a.ensures (λ M. Consequence (all (held t))) _ refl _
    passes.sound.kept.admissible c.following.result c.following.ensures _ _ _ c.write_marked.ensures
