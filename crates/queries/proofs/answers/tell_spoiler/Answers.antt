-- `queries::answers::tell_spoiler` meets its contract. Assumes nothing.
use Prim.Native.Nat.{◌-◌, ◌<◌}
use native.Mathlib.Omega.{arith}
use mathlib.Core.Path.{◌≡◌}
use lib.ListN.{length}
use Rattle.theory.specs.Limits.{document}
use Rattle.queries.proofs.Told.{entry-low, told-negative, told-positive, told-valid}
use borrow.Author.Rules.{rules}
use Rattle.queries.proofs.answers.tell_spoiler.Goals as goal
use Rattle.queries.proofs.answers.tell_spoiler.Goals.{Start}

-- what owning the rule tells of its entries
long : (s : Start) → length s.args.rule.entries ≡ document.entries
long s = s.well_formed.0.1.1.1.1.1.1.0.1.0.1

pub returns-then-place-eq0 : goal.returns-then-place-eq0
returns-then-place-eq0 c = told-valid _ c.args.place c.if-place-eq0.true

-- the entry is one of the rule's
low : (s : Start) → (s.args.place ≡ 0 → ⊥) → s.args.place - 1 < document.entries
low s n = entry-low s.args.rule (long s) s.args.place (s.args.place - 1) (omega arith) s.requires

pub bounds-rule-k : goal.bounds-rule-k
bounds-rule-k c = (let l = low c.before c.if-place-eq0.false in search rules)

pub returns-then-k-n : goal.returns-then-k-n
returns-then-k-n c =
    told-positive c.args.rule (long c.before.before.before.before) c.args.place (c.args.place - 1) (omega (arith, c.if-place-eq0.false)) c.requires _
    c.positive_end-n.ensures c.if-k-n.true

pub returns : goal.returns
returns c =
    told-negative c.args.rule (long c.before.before.before.before) c.args.place (c.args.place - 1) (omega (arith, c.if-place-eq0.false)) c.requires _
    c.positive_end-n.ensures c.if-k-n.false
