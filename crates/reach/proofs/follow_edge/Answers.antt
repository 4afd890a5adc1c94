-- `reach::follow_edge` meets its contract. Assumes nothing.
use native.Mathlib.Omega.{arith}
use mathlib.Core.Path.{sym, ◌∙◌}
use Rattle.theory.proofs.Lists.{clash}
use borrow.Author.Rules.{rules}
use Rattle.reach.proofs.follow_edge.Goals as goal

pub returns-then-not-is_source : goal.returns-then-not-is_source
returns-then-not-is_source c =
    let closed = sym c.is_source.ensures ∙ c.if-not-is_source.true in
    record { same = search rules; held = λ p q o. absurd (clash o closed) }

pub returns-then-i-s : goal.returns-then-i-s
returns-then-i-s c = record { same = search rules; held = λ p q o. absurd (omega arith) }

pub returns-then-j-s : goal.returns-then-j-s
returns-then-j-s c = record { same = search rules; held = λ p q o. absurd (omega arith) }

pub returns : goal.returns
returns c =
    record {
      atom_from = search rules;
      atom_to = search rules;
      from_source = sym c.is_source.ensures ∙ c.if-not-is_source.false;
      inside = search rules;
      new = search rules;
      grown = search rules;
    }
