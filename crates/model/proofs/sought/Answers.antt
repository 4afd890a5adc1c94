-- `model::sought` answers whether an atom is sought. Assumes nothing.
use Rattle.std.proofs.Common.{not, sym, ap, ◌∙◌}
use Rattle.model.proofs.Visits.{sought-other, sought-here}
use Rattle.model.proofs.sought.Goals as goal

pub returns-then-number_of-k : goal.returns-then-number_of-k
returns-then-number_of-k c = sought-other _ _ _ (λ e. c.if-number_of-k.true (c.number_of.ensures ∙ e))

pub returns : goal.returns
returns c =
    ap not c.has.ensures
    ∙ sought-here _ _ _ (sym c.number_of.ensures ∙ c.if-number_of-k.false)
