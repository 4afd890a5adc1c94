-- `file_blocks::sums` meets its contract. The loop's invariant: a and b are the sums of the bytes passed. Assumes nothing.
use Rattle.std.proofs.Common.{ap, refl, ◌∙◌, take_all, rules}
use Rattle.file_blocks.specs.Sums.{sum_a, sum_b}
use Rattle.file_blocks.proofs.Remainders.{sums-start, sums_next}
use Rattle.file_blocks.proofs.sums.Goals as goal

pub loop-x-init : goal.loop-x-init
loop-x-init c = sums-start

pub loop-x-preserved : goal.loop-x-preserved
loop-x-preserved c =
    let l = c.loop-x in
    let bs = c.args.bytes.now in
    sums_next bs l.x-index (search rules) l.a l.b _ _ _ l.invariant.0 l.invariant.1 c.wide-a.ensures.0 refl refl

pub returns : goal.returns
returns c =
    let l = c.loop-x in
    let bs = c.args.bytes.now in
    let all = take_all l.x-index bs (search rules) in
    (l.invariant.0 ∙ ap sum_a all, l.invariant.1 ∙ ap sum_b all)
