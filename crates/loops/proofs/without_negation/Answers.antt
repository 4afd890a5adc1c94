-- `loops::without_negation` meets its contract. Assumes nothing.
use native.Mathlib.Omega.{arith}
use mathlib.Core.Path.{◌≡◌, refl}
use lib.ListN.{get_or}
use borrow.Author.Rules.{rules}
use borrow.Author.Tests.{tests}
use Rattle.std.proofs.lemmas.Iterator.{cases_from_all, YieldsList-from_range}
use Rattle.theory.specs.Limits.{document}
use Rattle.table.specs.Rules.{past_rule}
use Rattle.table.specs.Words.{rules_of}
use Rattle.table.proofs.Words.{rules-length}
use Rattle.questions.proofs.Passes.{all_places}
use Rattle.loops.proofs.Descent.{positive-descends, descends-slots}
use Rattle.loops.proofs.without_negation.Goals as goal

pub returns : goal.returns
returns c =
    let all =
    all_places (λ s. (get_or (rules_of c.args.table.now) s past_rule).negatives ≡ 0) document.slots _
    (cases_from_all _ _ _ (λ s. (get_or (rules_of c.args.table.now) s past_rule).negatives ≡ 0)
    (λ s. (get_or (rules_of c.args.table.now) s past_rule).negatives ≡ 0 → ⊥) c.all.ensures.ran
    (YieldsList-from_range 0 document.slots document.slots refl (omega arith))
    (λ s t k. search (rules, tests)) (λ s t k. search (rules, tests))) in
    λ t. (descends-slots (rules_of c.args.table.now) (λ a. 0) document.slots (rules-length c.args.table.now)).0
    (λ s l. positive-descends _ (all.0 t s l))
