-- `questions::ask_rule` meets its contract. Assumes nothing.
-- Each return has the answers of the questions before it.
use Prim.Native.Nat.{◌+◌}
use mathlib.Core.Path.{◌≡◌, ap}
use mathlib.Core.Bool.{true, not, ◌&&◌}
use lib.Dec.{leb, ltb}
use lib.ListN.{length}
use Rattle.theory.specs.Lists.{every}
use Rattle.theory.specs.Limits.{document}
use Rattle.theory.proofs.Lists.{and-of}
use Rattle.questions.proofs.Refusals.{no-by, yes-by, both-no, both-no-2}
use Rattle.questions.proofs.Refusals.{refused-1, refused-2, refused-3, refused-4, passed-all}
use Rattle.questions.proofs.ask_rule.Goals as goal

-- Questions 1, 2 and 3 are answered yes where those after them are asked.

pub returns-then-not-head_fits : goal.returns-then-not-head_fits
returns-then-not-head_fits c =
    let a = c.args in
    refused-1 document a.head a.positives.now a.negatives.now (no-by _ _ c.head_fits.ensures (ap not c.if-not-head_fits.true))

pub returns-then-not-few_entries : goal.returns-then-not-few_entries
returns-then-not-few_entries c =
    let a = c.args in
    let one : ltb a.head document.atoms ≡ true = yes-by _ _ c.head_fits.ensures (ap not c.if-not-head_fits.false) in
    refused-2 document a.head a.positives.now a.negatives.now one (no-by _ _ c.few_entries.ensures (ap not c.if-not-few_entries.true))

pub returns-then-not-entries_fit : goal.returns-then-not-entries_fit
returns-then-not-entries_fit c =
    let a = c.args in
    let one : ltb a.head document.atoms ≡ true = yes-by _ _ c.head_fits.ensures (ap not c.if-not-head_fits.false) in
    let two : leb (length a.positives.now + length a.negatives.now) document.entries ≡ true =
    yes-by _ _ c.few_entries.ensures (ap not c.if-not-few_entries.false) in
    refused-3 document a.head a.positives.now a.negatives.now one two (both-no _ _ (no-by _ _ c.entries_fit.ensures (ap not c.if-not-entries_fit.true)))

pub returns-then-not-entries_fit-2 : goal.returns-then-not-entries_fit-2
returns-then-not-entries_fit-2 c =
    let a = c.args in
    let one : ltb a.head document.atoms ≡ true = yes-by _ _ c.head_fits.ensures (ap not c.if-not-head_fits.false) in
    let two : leb (length a.positives.now + length a.negatives.now) document.entries ≡ true =
    yes-by _ _ c.few_entries.ensures (ap not c.if-not-few_entries.false) in
    refused-3 document a.head a.positives.now a.negatives.now one two
    (both-no-2 _ _ (yes-by _ _ c.entries_fit.ensures (ap not c.if-not-entries_fit.false))
    (no-by _ _ c.entries_fit-2.ensures (ap not c.if-not-entries_fit-2.true)))

pub returns-then-not-no_repeat : goal.returns-then-not-no_repeat
returns-then-not-no_repeat c =
    let a = c.args in
    let one : ltb a.head document.atoms ≡ true = yes-by _ _ c.head_fits.ensures (ap not c.if-not-head_fits.false) in
    let two : leb (length a.positives.now + length a.negatives.now) document.entries ≡ true =
    yes-by _ _ c.few_entries.ensures (ap not c.if-not-few_entries.false) in
    let three : (every (λ x. ltb x document.atoms) a.positives.now && every (λ x. ltb x document.atoms) a.negatives.now) ≡ true =
    and-of _ _ (yes-by _ _ c.entries_fit.ensures (ap not c.if-not-entries_fit.false))
    (yes-by _ _ c.entries_fit-2.ensures (ap not c.if-not-entries_fit-2.false)) in
    refused-4 document a.head a.positives.now a.negatives.now one two three
    (both-no _ _ (no-by _ _ c.no_repeat.ensures (ap not c.if-not-no_repeat.true)))

pub returns-then-not-no_repeat-2 : goal.returns-then-not-no_repeat-2
returns-then-not-no_repeat-2 c =
    let a = c.args in
    let one : ltb a.head document.atoms ≡ true = yes-by _ _ c.head_fits.ensures (ap not c.if-not-head_fits.false) in
    let two : leb (length a.positives.now + length a.negatives.now) document.entries ≡ true =
    yes-by _ _ c.few_entries.ensures (ap not c.if-not-few_entries.false) in
    let three : (every (λ x. ltb x document.atoms) a.positives.now && every (λ x. ltb x document.atoms) a.negatives.now) ≡ true =
    and-of _ _ (yes-by _ _ c.entries_fit.ensures (ap not c.if-not-entries_fit.false))
    (yes-by _ _ c.entries_fit-2.ensures (ap not c.if-not-entries_fit-2.false)) in
    refused-4 document a.head a.positives.now a.negatives.now one two three
    (both-no-2 _ _ (yes-by _ _ c.no_repeat.ensures (ap not c.if-not-no_repeat.false))
    (no-by _ _ c.no_repeat-2.ensures (ap not c.if-not-no_repeat-2.true)))

pub returns : goal.returns
returns c =
    let a = c.args in
    let one : ltb a.head document.atoms ≡ true = yes-by _ _ c.head_fits.ensures (ap not c.if-not-head_fits.false) in
    let two : leb (length a.positives.now + length a.negatives.now) document.entries ≡ true =
    yes-by _ _ c.few_entries.ensures (ap not c.if-not-few_entries.false) in
    let three : (every (λ x. ltb x document.atoms) a.positives.now && every (λ x. ltb x document.atoms) a.negatives.now) ≡ true =
    and-of _ _ (yes-by _ _ c.entries_fit.ensures (ap not c.if-not-entries_fit.false))
    (yes-by _ _ c.entries_fit-2.ensures (ap not c.if-not-entries_fit-2.false)) in
    passed-all document a.head a.positives.now a.negatives.now one two three
    (and-of _ _ (yes-by _ _ c.no_repeat.ensures (ap not c.if-not-no_repeat.false))
    (yes-by _ _ c.no_repeat-2.ensures (ap not c.if-not-no_repeat-2.false)))
