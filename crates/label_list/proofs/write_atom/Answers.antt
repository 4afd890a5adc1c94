-- `label_list::write_atom` meets its contract. Assumes nothing.
use mathlib.Core.Path.{sym, ◌∙◌, ap}
use mathlib.Core.Bool.{Bool, cond}
use Rattle.table.specs.Sets.{member, number}
use Rattle.label_list.proofs.Writing.{atom-passed, atom-written}
use Rattle.label_list.proofs.write_atom.Goals as goal

pub returns-then-not-has : goal.returns-then-not-has
returns-then-not-has c =
    atom-passed (member c.args.there.now c.args.a.0) _ _ _ _ c.args.n _
    (sym c.has.ensures ∙ c.if-not-has.true)

pub returns : goal.returns
returns c =
    let a = c.args.a.0 in
    atom-written (member c.args.there.now a) (member c.args.flags.now a) a (number c.args.depths.now a)
    (number c.args.slots.now a) c.args.n _
    (sym c.has.ensures ∙ c.if-not-has.false) _ _ _ _ _
    (c.state_of-state.ensures ∙ ap (λ (b : Bool). cond b 2 1) c.has-is_in.ensures) c.number_of-depth.ensures
    c.number_of-slot.ensures c.write_four.ensures
