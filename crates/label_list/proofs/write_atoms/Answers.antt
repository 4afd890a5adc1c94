-- `label_list::write_atoms` meets its contract. The loop keeps: what was found of the atoms below i was written.
-- Assumes nothing.
use native.Mathlib.Omega.{arith}
use mathlib.Core.Path.{◌≡◌, ◌∙◌, subst}
use Rattle.theory.specs.Limits.{document}
use Rattle.table.specs.Sets.{member, number}
use Rattle.written_lists.specs.Written.{Appends}
use Rattle.label_list.specs.Listed.{up_to}
use Rattle.label_list.specs.Found.{found_numbers}
use Rattle.label_list.proofs.Writing.{atoms-room, up_start, up-written}
use borrow.Author.Rules.{rules}
use Rattle.label_list.proofs.write_atoms.Goals as goal

pub loop-i-init : goal.loop-i-init
loop-i-init c = (omega arith, search rules, up_start _ _)

pub write_atom-next-requires : goal.write_atom-next-requires
write_atom-next-requires c =
    let at = c.loop-i in
    omega (
      arith,
      atoms-room (member c.args.there.now) (member c.args.flags.now) (number c.args.depths.now)
          (number c.args.slots.now) at.i _ _ _ at.invariant.2,
    )

pub loop-i-preserved : goal.loop-i-preserved
loop-i-preserved c =
    let at = c.loop-i in (
      omega arith,
      c.write_atom-next.auto.buffer ∙ at.invariant.1,
      up-written _ at.i _ _ _ _ _ at.invariant.2 c.write_atom-next.ensures,
    )

pub returns : goal.returns
returns c =
    let at = c.loop-i in
    let e : at.i ≡ document.atoms = omega arith in
    subst (λ k. Appends (up_to (found_numbers (member c.args.there.now) (member c.args.flags.now)
    (number c.args.depths.now) (number c.args.slots.now)) k)
    0 at.next c.args.buffer.now at.buffer) e at.invariant.2
