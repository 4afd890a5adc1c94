-- `queries::spoiler` meets its contract. Assumes nothing.
use Prim.Native.Nat.{◌<◌}
use mathlib.Core.Path.{refl, sym, subst}
use Rattle.theory.specs.Limits.{document}
use Rattle.std.proofs.lemmas.Result.{err_from_is_err_and}
use Rattle.table.specs.Words.{table_of}
use Rattle.calls.proofs.Asking.{slot-low, slot-passed, spoiler-refused}
use Rattle.queries.proofs.Ends.{spoiler-ends, spoiler-low}
use Rattle.queries.proofs.spoiler.Goals as goal

pub spoiler_at-place-requires : goal.spoiler_at-place-requires
spoiler_at-place-requires c =
    let t = table_of c.args.table.now in
    let passes = slot-passed t c.args.slot _ c.in_ok-s.ensures _ refl in
    subst (λ k. k < document.slots) (sym passes.slot) (slot-low t c.args.slot _ passes)

pub tell_rule-requires : goal.tell_rule-requires
tell_rule-requires c =
    let t = table_of c.args.table.now in
    let passes = slot-passed t c.args.slot _ c.in_ok-s.ensures _ refl in
    spoiler-low t c.args.slot _ passes c.rule_in-rule.result c.rule_in-rule.ensures _ c.spoiler_at-place.ensures

pub returns-in_err-s : goal.returns-in_err-s
returns-in_err-s c =
    let t = table_of c.args.table.now in
    let p = err_from_is_err_and c.from_residual.result c.from_residual.ensures.1 in
    rw (p.1, p.2) (spoiler-refused t c.args.slot _ c.in_err-s.ensures _ refl)

pub returns : goal.returns
returns c =
    let t = table_of c.args.table.now in
    let passes = slot-passed t c.args.slot _ c.in_ok-s.ensures _ refl in
    spoiler-ends t c.args.slot _ passes c.rule_in-rule.result c.rule_in-rule.ensures _
    c.spoiler_at-place.ensures _ c.tell_rule.ensures
