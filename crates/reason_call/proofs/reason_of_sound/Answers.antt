-- `reason_call::reason_of_sound` meets its contract: each refusal is that of the first question answered no. Assumes
-- nothing.
use Prim.Native.Nat.{◌<◌}
use mathlib.Core.Path.{refl, sym, subst}
use Rattle.theory.specs.Questions.{atom_questions}
use Rattle.theory.specs.Limits.{document}
use Rattle.theory.proofs.Questions.{first_no-before}
use Rattle.std.proofs.lemmas.Result.{err_from_is_err_and}
use Rattle.table.specs.Words.{table_of}
use Rattle.calls.proofs.Asking.{ask-passed, list-refused, passes-low}
use Rattle.reason_call.proofs.Reasons.{ends_asked}
use Rattle.reason_call.proofs.reason_of_sound.Goals as goal

-- Question 10 comes first: of a number that it refuses
-- no reason is sought.
pub write_reason-requires : goal.write_reason-requires
write_reason-requires c =
    let t = table_of c.args.table.now in
    let passes = ask-passed t c.args.atom _ c.in_ok-a.ensures _ refl in
    (c.requires, subst (λ k. k < document.atoms) (sym passes.atom) (passes-low t c.args.atom _ passes))

pub returns-in_err-a : goal.returns-in_err-a
returns-in_err-a c =
    let t = table_of c.args.table.now in
    let p = err_from_is_err_and c.from_residual.result c.from_residual.ensures.1 in
    rw (p.1, p.2) (list-refused t c.args.atom _ c.in_err-a.ensures _ refl _ _ _
    (first_no-before (atom_questions document c.args.atom) _))

pub returns : goal.returns
returns c =
    let t = table_of c.args.table.now in
    let passes = ask-passed t c.args.atom _ c.in_ok-a.ensures _ refl in
    ends_asked t c.args.atom _ passes _ _ _ c.write_reason.ensures
