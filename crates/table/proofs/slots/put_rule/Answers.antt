-- `table::slots::put_rule` meets its contract. Past the end nothing is written. Assumes nothing.
use Prim.Native.Nat.{◌*◌}
use native.Mathlib.Omega.{arith}
use mathlib.Core.Path.{◌≡◌, sym, ◌∙◌, ap}
use lib.ListN.{length}
use lib.Seq.{paste, set_out}
use Rattle.theory.specs.Limits.{document}
use Rattle.table.specs.Words.{width, rules_of}
use Rattle.table.proofs.Words.{put-rules, rules-length}
use Rattle.table.proofs.slots.put_rule.Goals as goal

pub returns-then-i-lt-SLOTS : goal.returns-then-i-lt-SLOTS
returns-then-i-lt-SLOTS c =
    let w = c.args.table.now in
    let i = c.args.s.0 in
    let r = c.args.rule in
    let made = c.rule_words-part.ensures in
    let all : length r.entries ≡ document.entries = c.well_formed.1.1.0.1.1.1.1.1.1.0.1.0.1 in
    ap rules_of (c.paste.ensures.0 ∙ ap (λ a. paste w (width * i) a 12) made)
    ∙ put-rules w i r c.paste.ensures.1 (omega (arith, c.if-i-lt-SLOTS.true)) all

pub returns-else-i-lt-SLOTS : goal.returns-else-i-lt-SLOTS
returns-else-i-lt-SLOTS c =
    sym (set_out _ _ _ (omega (arith, rules-length c.args.table.now, c.if-i-lt-SLOTS.false)))
