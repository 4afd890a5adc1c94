-- `labels::relabel` finds what the slots have to keep, and they keep it; or it tells a negative cycle. Assumes nothing.
use Rattle.theory.proofs.Pages.{active-bounded}
use Rattle.table.specs.Rules.{book_of}
use Rattle.table.specs.Words.{rules_of}
use Rattle.strata.proofs.Answer.{answer-acyclic}
use Rattle.labels.proofs.Keeping.{told-kept, told-cycle}
use borrow.Author.Rules.{rules}
use Rattle.labels.proofs.relabel.Goals as goal

pub returns-in_default : goal.returns-in_default
returns-in_default c = told-cycle _ (search rules) c.in_default.ensures

pub in_atoms-search-requires : goal.in_atoms-search-requires
in_atoms-search-requires c =
    record {
      bounded = c.before.requires;
      exact = c.in-Some.ensures;
    }

pub depths-deep-requires : goal.depths-deep-requires
depths-deep-requires c =
    let s = c.before.before in
    (active-bounded (book_of (rules_of s.args.table.now)) _ s.requires, c.in_atoms-search.ensures.model)

pub returns : goal.returns
returns c =
    told-kept _ (search rules) _ _
    (answer-acyclic _ _ c.in-Some.ensures)
    c.in_atoms-search.ensures.model c.depths-deep.ensures _ c.keep_dues.ensures
