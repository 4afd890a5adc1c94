-- `well_formed::key` meets its contract: what was mixed in and what is left give the whole. Assumes nothing.
use native.Mathlib.Omega.{arith}
use mathlib.Core.Path.{◌≡◌, refl, ◌∙◌, ap}
use lib.ListN.{length}
use lib.Seq.{slice}
use Rattle.theory.specs.Limits.{document}
use Rattle.table.specs.Rules.{numbers}
use Rattle.table.proofs.Entries.{entries-are}
use Rattle.well_formed.specs.Keys.{mixed}
use Rattle.well_formed.proofs.Links.{mixed-over, mixed-next}
use borrow.Author.Rules.{rules}
use Rattle.well_formed.proofs.key.Goals as goal
use Rattle.well_formed.proofs.key.Goals.{Start}

-- what owning the rule tells of its entries
long : (s : Start) → length s.args.rule.entries ≡ document.entries
long s = s.well_formed.0.1.1.1.1.1.1.0.1.0.1

pub loop-j-init : goal.loop-j-init
loop-j-init c = (
  omega (arith, c.wide-k.ensures.1),
  ap (λ h. mixed h (numbers (slice 0 c.negative_end-n.result c.args.rule.entries)))
      c.wide-k.ensures.0
      ∙ ap (mixed c.args.rule.head.0)
      (entries-are c.args.rule document.entries (long c.before.before.before) _ c.negative_end-n.ensures),
)

pub overflow_mul-k : goal.overflow_mul-k
overflow_mul-k c = (let l = c.loop-j.invariant.0 in search rules)

pub overflow_add-k : goal.overflow_add-k
overflow_add-k c =
    let l = c.loop-j.invariant.0 in
    let h = c.wide-x.ensures.1 in
    search rules

pub loop-j-preserved : goal.loop-j-preserved
loop-j-preserved c =
    let len = long c.before.before.before.before.before.before.before in (
      omega arith,
      mixed-next c.args.rule.entries c.loop-j.j _ c.loop-j.k _ c.loop-j.invariant.1
          c.loop-j-test.true (omega (arith, c.negative_end-n.ensures))
          _ _ c.wide-x.ensures.0 refl,
    )

pub overflow_mul-result : goal.overflow_mul-result
overflow_mul-result c = (let l = c.loop-j.invariant.0 in search rules)

pub returns : goal.returns
returns c = mixed-over _ _ _ _ _ c.loop-j.invariant.1 c.loop-j-test.false
