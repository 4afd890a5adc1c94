-- `written_lists::write_marked` meets its contract. Assumes nothing.
-- The loop keeps: the places below `i` are written.
use native.Mathlib.Omega.{arith}
use mathlib.Core.Path.{◌≡◌, ◌∙◌, subst}
use lib.ListN.{length}
use Rattle.table.specs.Sets.{member}
use Rattle.written_lists.specs.Lists.{below}
use Rattle.written_lists.specs.Written.{Appends}
use Rattle.written_lists.proofs.Written.{appends-start, appends-next, appends-most, written_all, written-short}
use borrow.Author.Rules.{rules}
use Rattle.written_lists.proofs.write_marked.Goals as goal

pub returns-then-needed-buffer : goal.returns-then-needed-buffer
returns-then-needed-buffer c = written-short _ _ _ c.count_marked-needed.ensures c.if-needed-buffer.true

pub loop-i-init : goal.loop-i-init
loop-i-init c = (omega arith, search rules, appends-start _ _ _)

pub write_if-n-requires : goal.write_if-n-requires
write_if-n-requires c =
    let at = c.loop-i in
    omega (arith, appends-most _ at.i _ _ _ _ at.invariant.2)

pub loop-i-preserved : goal.loop-i-preserved
loop-i-preserved c =
    let at = c.loop-i in (
      omega arith,
      c.write_if-n.auto.buffer ∙ at.invariant.1,
      appends-next _ at.i _ _ _ _ _ _ at.invariant.2 c.write_if-n.ensures,
    )

pub returns : goal.returns
returns c =
    let at = c.loop-i in
    let a = c.args in
    let e : at.i ≡ length a.flags.now = omega arith in
    written_all _ _ _ c.count_marked-needed.ensures at.n _ (omega arith)
    (subst (λ k. Appends (below (member a.flags.now) k) 0 at.n a.buffer.now at.buffer) e at.invariant.2)
