-- `checklist_open::open` meets its contract. Assumes nothing.
use native.Mathlib.Omega.{arith}
use mathlib.Core.Path.{sym, ◌∙◌}
use Rattle.checklist_frame.proofs.Frames.{on-list-between}
use Rattle.checklist_open.proofs.Opening.{open-refused, open-accepted}
use Rattle.checklist_open.proofs.open.Goals as goal

pub on_list-requires : goal.on_list-requires
on_list-requires c = omega arith

pub returns-then-not-on_list : goal.returns-then-not-on_list
returns-then-not-on_list c =
    open-refused c.args.files _ (sym c.on_list.ensures ∙ c.if-not-on_list.true)
    c.empty.ensures

pub framed-requires : goal.framed-requires
framed-requires c =
    on-list-between 60 c.args.files (sym c.on_list.ensures ∙ c.if-not-on_list.false)

pub returns : goal.returns
returns c =
    open-accepted c.args.files _ (sym c.on_list.ensures ∙ c.if-not-on_list.false)
    c.framed.ensures
