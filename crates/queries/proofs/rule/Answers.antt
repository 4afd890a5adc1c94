-- `queries::rule` meets its contract. Assumes nothing.
use mathlib.Core.Path.{refl}
use Rattle.std.proofs.lemmas.Result.{err_from_is_err_and}
use Rattle.table.specs.Words.{table_of}
use Rattle.calls.proofs.Asking.{slot-passed}
use Rattle.queries.proofs.Ends.{rule-ends, rule-refused}
use Rattle.queries.proofs.rule.Goals as goal

pub returns-in_err-s : goal.returns-in_err-s
returns-in_err-s c =
    let t = table_of c.args.table.now in
    let p = err_from_is_err_and c.from_residual.result c.from_residual.ensures.1 in
    rw (p.1, p.2) (rule-refused t c.args.slot _ c.in_err-s.ensures _ refl)

pub returns : goal.returns
returns c =
    let t = table_of c.args.table.now in
    let passes = slot-passed t c.args.slot _ c.in_ok-s.ensures _ refl in
    rule-ends t c.args.slot _ passes c.rule_in-held.result c.rule_in-held.ensures _
    c.tell_numbers.ensures.0 c.tell_numbers.ensures.1
