-- `well_formed::slots_well_formed` meets its contract. Assumes nothing.
use native.Mathlib.Omega.{arith}
use mathlib.Core.Path.{refl}
use lib.ListN.{get_or}
use borrow.Author.Rules.{rules}
use borrow.Author.Tests.{tests}
use Rattle.std.proofs.lemmas.Iterator.{cases_from_all, YieldsList-from_range}
use Rattle.theory.specs.Limits.{document}
use Rattle.table.specs.Clean.{WellFormed}
use Rattle.table.specs.Rules.{past_rule}
use Rattle.table.specs.Words.{rules_of}
use Rattle.questions.proofs.Passes.{all_places}
use Rattle.well_formed.proofs.slots_well_formed.Goals as goal

pub returns : goal.returns
returns c =
    all_places (λ s. WellFormed (get_or (rules_of c.args.table.now) s past_rule)) document.slots _
    (cases_from_all _ _ _ (λ s. WellFormed (get_or (rules_of c.args.table.now) s past_rule))
    (λ s. WellFormed (get_or (rules_of c.args.table.now) s past_rule) → ⊥) c.all.ensures.ran
    (YieldsList-from_range 0 document.slots document.slots refl (omega arith))
    (λ s t k. search (rules, tests)) (λ s t k. search (rules, tests)))
