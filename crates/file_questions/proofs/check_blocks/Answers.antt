-- `file_questions::check_blocks` meets its contract. The loop's invariant: what was asked of the blocks passed, and what is
-- left to ask. Assumes nothing.
use Prim.Native.Nat.{◌+◌, ◌-◌, ◌*◌}
use native.Mathlib.Omega.{arith}
use mathlib.Core.Path.{◌≡◌, refl}
use lib.ListN.{length-take, length-drop}
use Rattle.file_questions.proofs.Blocks.{asked-start, asked-next, asked-all}
use borrow.Author.Rules.{rules}
use Rattle.file_questions.proofs.check_blocks.Goals as goal

pub loop-i-init : goal.loop-i-init
loop-i-init c = (refl, asked-start _ _)

pub check_block-checked-requires : goal.check_block-checked-requires
check_block-checked-requires c = (simp (length-take, length-drop) (omega arith), search rules)

pub loop-i-preserved : goal.loop-i-preserved
loop-i-preserved c =
    let l = c.loop-i in
    let bs = c.args.bytes.now in
    let part : 512 * l.i + 512 - 512 * l.i ≡ 512 = omega arith in (
      refl,
      asked-next bs _ l.i l.checked c.check_block-checked.result (search rules) l.invariant.1
          (rw part at c.check_block-checked.ensures),
    )

pub returns : goal.returns
returns c = asked-all _ c.loop-i.checked c.loop-i.i (search rules) c.loop-i.invariant.1
