-- `sheet_commands::list_labels` meets its contract. Assumes nothing.
use native.Mathlib.Omega.{arith}
use mathlib.Core.Path.{sym, subst}
use Rattle.theory.specs.Rules.{all}
use Rattle.theory.specs.Labels.{Label, Labelled}
use Rattle.theory.specs.Limits.{document}
use Rattle.theory.proofs.Questions.{passed-bounded}
use Rattle.theory.proofs.Slots.{labelled}
use Rattle.calls.specs.Ends.{held}
use Rattle.sheet_meaning.specs.Lines as prints
use Rattle.sheet_commands.proofs.list_labels.Goals as goal

pub labels_of-labels-requires : goal.labels_of-labels-requires
labels_of-labels-requires c =
    passed-bounded document (all (held c.args.table)) c.requires.0.rules.passes

pub returns : goal.returns
returns c =
    let S = c.requires.0 in
    λ line e. record {
      printed = _;
      prints = prints.labels S.kept.model _ e S S.kept.admissible
          (λ a l. subst (λ (k : Label). Labelled (held c.args.table) S.kept.model a k)
          (sym (c.labels_of-labels.ensures.1 a l)) (labelled _ _ _ S.kept a));
      wrote = c.write_labels.ensures.fits (omega arith);
    }
