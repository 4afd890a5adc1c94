-- `questions::entries_fit` meets its contract. Assumes nothing.
use mathlib.Core.Path.{◌∙◌}
use lib.Dec.{ltb}
use borrow.Author.Rules.{rules}
use borrow.Author.Tests.{tests}
use Rattle.std.proofs.lemmas.Iterator.{YieldsList-from_slice}
use Rattle.std.proofs.lemmas.Iterator.Search.{all_from_yields_List}
use Rattle.theory.specs.Limits.{document}
use Rattle.questions.proofs.Passes.{every_all}
use Rattle.questions.proofs.entries_fit.Goals as goal

pub returns : goal.returns
returns c =
    all_from_yields_List (λ x. ltb x document.atoms) _ _ _ c.all.ensures.ran (YieldsList-from_slice c.args.list.now cc)
    (λ x b q k. search (rules, tests))
    ∙ every_all (λ x. ltb x document.atoms) c.args.list.now
