-- `relations::has_entry` meets its contract. Assumes nothing.
use mathlib.Core.Path.{◌≡◌, ◌∙◌, ap}
use lib.Dec.{eqb}
use lib.ListN.{length, take}
use Rattle.std.specs.List.{list_any}
use Rattle.theory.specs.Lists.{any}
use Rattle.theory.specs.Limits.{document}
use Rattle.table.proofs.Entries.{entries-are}
use Rattle.relations.proofs.Passes.{test-free, test-held, any-entries}
use Rattle.std.proofs.Common.{rules, tests}
use Rattle.std.proofs.lemmas.Iterator.{YieldsList-from_slice}
use Rattle.std.proofs.lemmas.Iterator.Search.{any_from_yields_List}
use Rattle.relations.proofs.has_entry.Goals as goal

pub returns-then-rule-eq0 : goal.returns-then-rule-eq0
returns-then-rule-eq0 c = test-free _ c.args.rule c.if-rule-eq0.true

pub returns : goal.returns
returns c =
    let r = c.args.rule in
    let a = c.args.a.0 in
    let n = c.negative_end-n.result in
    let long : length r.entries ≡ document.entries = c.well_formed.0.1.1.1.1.1.1.0.1.0.1 in
    let told : c.any.result ≡ list_any (λ x. eqb a x.0) (take n r.entries) =
    any_from_yields_List (λ x. eqb a x.0) _ _ _ c.any.ensures.ran (YieldsList-from_slice (take n r.entries) cc)
    (λ x b q k. search (rules, tests)) in
    test-held _ r _ c.if-rule-eq0.false
    (told ∙ any-entries a (take n r.entries)
    ∙ ap (any (eqb a)) (entries-are r document.entries long n c.negative_end-n.ensures))
