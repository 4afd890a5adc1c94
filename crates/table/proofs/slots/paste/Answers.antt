-- `table::slots::paste` meets its contract. Assumes nothing.
use native.Mathlib.Omega.{arith}
use mathlib.Core.Path.{◌≡◌, ◌∙◌, ap}
use lib.Seq.{paste, paste-zero}
use Rattle.table.proofs.Pasting.{paste-next}
use borrow.Author.Rules.{rules}
use Rattle.table.proofs.slots.paste.Goals as goal

pub loop-j-init : goal.loop-j-init
loop-j-init c = (
  search rules,
  search rules,
  search rules,
  omega arith,
  paste-zero
      c.args.table.now c.args.b c.args.part.now,
)

pub loop-j-preserved : goal.loop-j-preserved
loop-j-preserved c =
    let t = c.loop-j in
    let l = c.loop-j-test.true in (
      t.invariant.0,
      search rules,
      t.invariant.2,
      omega arith,
      paste-next _ _ _ _ _ t.invariant.4 (omega (arith, c.requires, t.invariant.0)) (omega (arith, t.invariant.2)),
    )

pub returns : goal.returns
returns c =
    let t = c.loop-j in
    let e : t.j ≡ 12 = omega (arith, t.invariant.3, c.loop-j-test.false) in
    let a = c.args in
    (t.invariant.4 ∙ ap (paste a.table.now a.b a.part.now) e, t.invariant.0)
