-- `sheet_lines::read::read` meets its contract: over-long and blank lines are told from the others first. Assumes
-- nothing.
use Prim.Native.Nat.{◌≤◌, ◌<◌}
use native.Mathlib.Omega.{arith}
use mathlib.Core.Path.{sym, ◌∙◌}
use lib.ListN.{length, drop, length-drop}
use Rattle.sheet_lines.specs.Readings.{LINE}
use Rattle.sheet_lines.proofs.Answers.{as_read, some_left, reading-long, reading-blank, reading-form}
use Rattle.sheet_lines.proofs.read.read.Goals as goal

-- `many` says how many bytes stand from the place on: not too many, where the first test fails
pub returns-then-bytes_left-gt-LINE-clause-answers : goal.returns-then-bytes_left-gt-LINE-clause-answers
returns-then-bytes_left-gt-LINE-clause-answers c =
    let many = c.bytes_left.ensures ∙ sym (length-drop c.args.place.offset c.args.line.now) in
    let long : LINE < length (drop c.args.place.offset c.args.line.now) =
    omega (arith, many, c.if-bytes_left-gt-LINE.true) in
    as_read c.plain.ensures.answers (reading-long _ long)

pub returns-then-ended-clause-answers : goal.returns-then-ended-clause-answers
returns-then-ended-clause-answers c =
    let many = c.bytes_left.ensures ∙ sym (length-drop c.args.place.offset c.args.line.now) in
    let few : length (drop c.args.place.offset c.args.line.now) ≤ LINE =
    omega (arith, many, c.if-bytes_left-gt-LINE.false) in
    as_read c.plain-then-ended.ensures.answers (reading-blank _ few (sym c.ended.ensures ∙ c.if-ended.true))

pub form-requires-clause-offset_in_bounds : goal.form-requires-clause-offset_in_bounds
form-requires-clause-offset_in_bounds c =
    let many = c.bytes_left.ensures ∙ sym (length-drop c.args.place.offset c.args.line.now) in
    some_left _ _ (sym c.ended.ensures ∙ c.if-ended.false)

pub returns-clause-answers : goal.returns-clause-answers
returns-clause-answers c =
    let many = c.bytes_left.ensures ∙ sym (length-drop c.args.place.offset c.args.line.now) in
    let few : length (drop c.args.place.offset c.args.line.now) ≤ LINE =
    omega (arith, many, c.if-bytes_left-gt-LINE.false) in
    as_read c.form.ensures.answers (reading-form _ few (sym c.ended.ensures ∙ c.if-ended.false))
