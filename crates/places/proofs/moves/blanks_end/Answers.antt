-- `places::moves::blanks_end` meets its contract: the chain counts the blanks that lead from an offset. Assumes nothing.
use Prim.Native.Nat.{ℕ, ◌+◌}
use mathlib.Core.Path.{ap, ◌∙◌}
use lib.ListN.{drop, length-drop}
use lib.Seq.{take_all}
use native.Mathlib.Omega.{arith}
use borrow.Author.Rules.{rules}
use borrow.Author.Tests.{tests}
use Rattle.std.proofs.Common.{Iter}
use Rattle.std.specs.Slice.Iter.{iter_rest}
use Rattle.std.proofs.lemmas.List.{drop_min}
use Rattle.std.proofs.lemmas.Iterator.{YieldsList-from_slice}
use Rattle.std.proofs.lemmas.Iterator.Consumers.{count_from_yields_List}
use Rattle.std.proofs.lemmas.Iterator.Search.{YieldsList-from_take_while}
use Rattle.places.specs.Places.{is_space, leading}
use Rattle.places.proofs.Leading.{leading-taken}
use Rattle.places.proofs.moves.blanks_end.Goals as goal

pub returns : goal.returns
returns c =
    let line = c.args.line.now in
    let start = c.args.start in
    let rest = drop c.min.result line in
    let whole = ap (λ (s : Iter ℕ). iter_rest s) c.take_while.ensures.source
    ∙ c.iter.ensures.rest ∙ take_all _ rest (omega (arith, length-drop c.min.result line)) in
    ap (λ (n : ℕ). start + n) (
    count_from_yields_List c.take_while.result _ c.count.ensures.ran
    (YieldsList-from_take_while _ is_space (YieldsList-from_slice rest whole)
    c.take_while.ensures.closure c.take_while.ensures.done (λ x b q k. search (rules, tests)))
    ∙ leading-taken is_space rest
    ∙ ap (leading is_space) (ap (λ (n : ℕ). drop n line) c.min.ensures ∙ drop_min start line)
    )
