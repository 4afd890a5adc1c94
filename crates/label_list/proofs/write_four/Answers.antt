-- `label_list::write_four` meets its contract. Assumes nothing.
use Rattle.label_list.proofs.Writing.{four-written}
use Rattle.label_list.proofs.write_four.Goals as goal

pub returns : goal.returns
returns c =
    four-written c.args.n c.args.a c.args.b c.args.c c.args.d _ _ _ _ _ c.write_at.ensures
    c.write_at-2.ensures c.write_at-3.ensures c.write_at-4.ensures
