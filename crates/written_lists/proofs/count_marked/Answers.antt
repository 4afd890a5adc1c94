-- `written_lists::count_marked` meets its contract. Assumes nothing.
-- The loop keeps: n flags below `flag-index` are true.
use Prim.Native.Nat.{◌≤◌}
use native.Mathlib.Omega.{arith}
use mathlib.Core.Path.{◌≡◌, ◌∙◌, ap}
use mathlib.Core.Bool.{false}
use lib.ListN.{length, get_or}
use Rattle.table.specs.Sets.{member}
use Rattle.written_lists.specs.Lists.{below}
use Rattle.written_lists.proofs.Lists.{at_most_one, length_none, next-length, below_length}
use borrow.Author.Rules.{rules}
use Rattle.written_lists.proofs.count_marked.Goals as goal

pub loop-flag-init : goal.loop-flag-init
loop-flag-init c = (omega arith, length_none _)

pub overflow_add-n : goal.overflow_add-n
overflow_add-n c =
    let flags = c.args.flags.now in
    let low = below_length (member flags) c.loop-flag.flag-index in
    let one : c.one_if-n.result ≤ 1 = at_most_one (get_or flags c.loop-flag.flag-index false) c.one_if-n.ensures in
    let so_far = c.loop-flag.invariant in
    search rules

pub loop-flag-preserved : goal.loop-flag-preserved
loop-flag-preserved c =
    let flags = c.args.flags.now in
    (omega arith, omega (arith, c.loop-flag.invariant.1, c.one_if-n.ensures, next-length (member flags) c.loop-flag.flag-index))

pub returns : goal.returns
returns c =
    let flags = c.args.flags.now in
    let e : c.loop-flag.flag-index ≡ length flags = omega arith in
    c.loop-flag.invariant.1 ∙ ap (λ k. length (below (member flags) k)) e
