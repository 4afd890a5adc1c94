-- `calls::atom_asked` meets its contract: the refusal is that of question 10. Assumes nothing.
use mathlib.Core.Path.{ap}
use mathlib.Core.Bool.{not}
use Rattle.refusals.specs.declared.Refusal.TheVariants.{AtomTooLarge}
use Rattle.calls.specs.Asking.{refused, passed}
use Rattle.calls.proofs.Asking.{atom-yes, atom-no, atom-low}
use borrow.Author.Rules.{rules}
use Rattle.calls.proofs.atom_asked.Goals as goal

pub returns-then-not-head_fits : goal.returns-then-not-head_fits
returns-then-not-head_fits c =
    refused AtomTooLarge c.requires (atom-no c.args.atom _ c.head_fits.ensures (ap not c.if-not-head_fits.true))

pub overflow_cast-a : goal.overflow_cast-a
overflow_cast-a c =
    let low = atom-low c.args.atom _ c.head_fits.ensures (ap not c.if-not-head_fits.false) in
    search rules

pub returns : goal.returns
returns c =
    passed c.requires (atom-yes c.args.atom _ c.head_fits.ensures (ap not c.if-not-head_fits.false))
