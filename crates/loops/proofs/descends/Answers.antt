-- `loops::descends` meets its contract. Assumes nothing.
use native.Mathlib.Omega.{arith}
use mathlib.Core.Path.{refl}
use lib.ListN.{get_or}
use borrow.Author.Rules.{rules}
use borrow.Author.Tests.{tests}
use Rattle.std.proofs.lemmas.Iterator.{cases_from_all, YieldsList-from_range, serves_from_Range}
use Rattle.theory.specs.Limits.{document}
use Rattle.table.specs.Rules.{past_rule, slot_of}
use Rattle.table.specs.Sets.{number}
use Rattle.table.specs.Words.{rules_of}
use Rattle.table.proofs.Words.{rules-length}
use Rattle.questions.proofs.Passes.{all_places}
use Rattle.loops.specs.Descent.{DescendsAt}
use Rattle.loops.proofs.Descent.{atoms-of, descends-slots}
use Rattle.loops.proofs.descends.Goals as goal

pub all-requires-clause-callable : goal.all-requires-clause-callable
all-requires-clause-callable c = serves_from_Range (λ x q k. search rules) (λ s l m. (
  λ _ _ _ _ _ _. omega (arith, m),
  λ _ _ _ _ _ r _. atoms-of (rules_of c.args.table.now) document.atoms s c.requires _ r.ensures,
))

pub returns : goal.returns
returns c =
    let rows = rules_of c.args.table.now in
    let slots = descends-slots rows (number c.args.numbers.now) document.slots (rules-length c.args.table.now) in
    let all =
    all_places (λ s. DescendsAt (number c.args.numbers.now) (slot_of (get_or (rules_of c.args.table.now) s past_rule))) document.slots _
    (cases_from_all _ _ _ (λ s. DescendsAt (number c.args.numbers.now) (slot_of (get_or (rules_of c.args.table.now) s past_rule)))
    (λ s. DescendsAt (number c.args.numbers.now) (slot_of (get_or (rules_of c.args.table.now) s past_rule)) → ⊥) c.all.ensures.ran
    (YieldsList-from_range 0 document.slots document.slots refl (omega arith))
    (λ s t k. search (rules, tests)) (λ s t k. search (rules, tests))) in
    (λ t. slots.0 (all.0 t), λ d. all.1 (slots.1 d))
