-- `file_loading::read_records` meets its contract. The loop's invariant: the rules of the records passed, and what is left to
-- ask of the others (`Going`). Assumes nothing.
use native.Mathlib.Omega.{arith}
use mathlib.Core.Path.{sym, ◌∙◌}
use Rattle.theory.proofs.Lists.{clash}
use Rattle.file_blocks.specs.Questions.{blocks, places_of}
use Rattle.file_blocks.proofs.Reading.{whole_parts, places_count, place-within}
use Rattle.file_loading.proofs.Gathering.{going-from, going-all, read-bad, read_next}
use Rattle.file_loading.proofs.read_records.Goals as goal

pub record_count-count-requires : goal.record_count-count-requires
record_count-count-requires c =
    let w = whole_parts c.args.bytes.now c.requires.0 in
    (w.least, w.most)

pub loop-k-init : goal.loop-k-init
loop-k-init c =
    let bs = c.args.bytes.now in (
      c.record_count-count.ensures ∙ sym (places_count bs c.requires.0 c.requires.1).0,
      going-from (places_of (blocks bs)) c.empty-empty.result c.empty-empty.ensures,
    )

pub record_start-at-requires : goal.record_start-at-requires
record_start-at-requires c =
    let bs = c.args.bytes.now in
    let w = whole_parts bs c.requires.0 in
    let n = places_count bs c.requires.0 c.requires.1 in
    omega (arith, c.loop-k.invariant.0, w.most, n.0, n.1)

pub word_at-requires : goal.word_at-requires
word_at-requires c =
    let bs = c.args.bytes.now in
    let within = place-within bs c.requires.0 c.requires.1 c.loop-k.k (omega (arith, c.loop-k.invariant.0)) in
    omega (arith, c.record_start-at.ensures, within)

pub rule_at-rule-requires : goal.rule_at-rule-requires
rule_at-rule-requires c =
    let bs = c.args.bytes.now in
    let within = place-within bs c.requires.0 c.requires.1 c.loop-k.k (omega (arith, c.loop-k.invariant.0)) in
    omega (arith, c.record_start-at.ensures, within)

pub returns-then-not-stands : goal.returns-then-not-stands
returns-then-not-stands c =
    read-bad c.args.bytes.now c.requires.0 c.requires.1 c.loop-k.words c.loop-k.least c.loop-k.k
    c.loop-k.invariant.1 (omega (arith, c.loop-k.invariant.0)) _ _ _ c.record_start-at.ensures
    c.word_at.ensures c.rule_at-rule.ensures
    (λ S. clash (c.stands.ensures.1 S) c.if-not-stands.true)

pub overflow_cast-least : goal.overflow_cast-least
overflow_cast-least c =
    let S = c.stands.ensures.0 c.if-not-stands.false in
    omega (arith, S.below)

pub loop-k-preserved : goal.loop-k-preserved
loop-k-preserved c = (
  c.loop-k.invariant.0,
  read_next c.args.bytes.now c.requires.0 c.requires.1 c.loop-k.words c.loop-k.least c.loop-k.k
      c.loop-k.invariant.1 (omega (arith, c.loop-k.invariant.0)) _ _ _ c.record_start-at.ensures
      c.word_at.ensures c.rule_at-rule.ensures
      (c.stands.ensures.0 c.if-not-stands.false) _ c.put_rule.ensures,
)

pub returns : goal.returns
returns c =
    let l = c.loop-k in
    going-all _ l.words l.least l.k l.invariant.1 (omega (arith, l.invariant.0))
