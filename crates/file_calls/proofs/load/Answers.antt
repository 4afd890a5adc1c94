-- `file_calls::load` meets its contract: each return has the answers of the questions before it. Assumes nothing.
use mathlib.Core.Path.{sym, ◌∙◌}
use Rattle.questions.proofs.Refusals.{no-by, yes-by}
use Rattle.file_blocks.proofs.Reading.{whole_parts}
use Rattle.file_calls.proofs.Tables.{load-handed}
use Rattle.file_calls.proofs.Asked.{not-whole, not-summed, not-numbered, not-filled, not-all-right}
use Rattle.file_calls.proofs.Asked.{rules-refused, rules-loaded}
use Rattle.file_calls.proofs.load.Goals as goal

pub returns-then-not-whole : goal.returns-then-not-whole
returns-then-not-whole c =
    load-handed _ _ _ c.empty.ensures (not-whole c.args.bytes.now (sym c.whole.ensures ∙ c.if-not-whole.true))

pub check_blocks-checked-requires : goal.check_blocks-checked-requires
check_blocks-checked-requires c = (whole_parts c.args.bytes.now (sym c.whole.ensures ∙ c.if-not-whole.false)).most

pub returns-then-not-checked : goal.returns-then-not-checked
returns-then-not-checked c =
    let told = c.check_blocks-checked.ensures in
    load-handed _ _ _ c.empty.ensures
    (not-summed c.args.bytes.now (sym c.whole.ensures ∙ c.if-not-whole.false)
    (no-by _ _ told.summed c.if-not-checked.true))

pub returns-then-not-checked-2 : goal.returns-then-not-checked-2
returns-then-not-checked-2 c =
    let told = c.check_blocks-checked.ensures in
    load-handed _ _ _ c.empty.ensures
    (not-numbered c.args.bytes.now (sym c.whole.ensures ∙ c.if-not-whole.false)
    (yes-by _ _ told.summed c.if-not-checked.false) (no-by _ _ told.numbered c.if-not-checked-2.true))

pub returns-then-not-checked-3 : goal.returns-then-not-checked-3
returns-then-not-checked-3 c =
    let told = c.check_blocks-checked.ensures in
    load-handed _ _ _ c.empty.ensures
    (not-filled c.args.bytes.now (sym c.whole.ensures ∙ c.if-not-whole.false)
    (yes-by _ _ told.summed c.if-not-checked.false) (yes-by _ _ told.numbered c.if-not-checked-2.false)
    (no-by _ _ told.filled c.if-not-checked-3.true))

pub read_records-requires : goal.read_records-requires
read_records-requires c = (
  sym c.whole.ensures ∙ c.if-not-whole.false,
  yes-by _ _ c.check_blocks-checked.ensures.numbered c.if-not-checked-2.false,
)

pub returns-in_default : goal.returns-in_default
returns-in_default c =
    let told = c.check_blocks-checked.ensures in
    load-handed _ _ _ c.empty.ensures
    (not-all-right c.args.bytes.now (sym c.whole.ensures ∙ c.if-not-whole.false)
    (yes-by _ _ told.summed c.if-not-checked.false) (yes-by _ _ told.numbered c.if-not-checked-2.false)
    (yes-by _ _ told.filled c.if-not-checked-3.false) c.in_default.ensures)

pub make-requires : goal.make-requires
make-requires c = c.in-Some.ensures.well

pub returns-then-not-make : goal.returns-then-not-make
returns-then-not-make c =
    let told = c.check_blocks-checked.ensures in
    let read = c.in-Some.ensures in
    load-handed _ _ _ c.empty.ensures
    (rules-refused c.args.bytes.now (sym c.whole.ensures ∙ c.if-not-whole.false)
    (yes-by _ _ told.summed c.if-not-checked.false) (yes-by _ _ told.numbered c.if-not-checked-2.false)
    (yes-by _ _ told.filled c.if-not-checked-3.false) read.told
    c.in-Some.read.words read.well read.pages _ _ c.make.ensures c.if-not-make.true)

pub returns : goal.returns
returns c =
    let told = c.check_blocks-checked.ensures in
    rules-loaded c.args.bytes.now (sym c.whole.ensures ∙ c.if-not-whole.false)
    (yes-by _ _ told.summed c.if-not-checked.false) (yes-by _ _ told.numbered c.if-not-checked-2.false)
    (yes-by _ _ told.filled c.if-not-checked-3.false) c.in-Some.ensures.told
    c.in-Some.read.words c.in-Some.ensures.well c.in-Some.ensures.pages _ _ c.make.ensures c.if-not-make.false
