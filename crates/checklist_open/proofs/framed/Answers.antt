-- `checklist_open::framed` puts the frame's rules in order, and makes a table of them. Assumes nothing.
use Prim.Native.Nat.{◌+◌}
use native.Mathlib.Omega.{arith}
use mathlib.Core.Path.{◌≡◌, ◌∙◌, ap, subst}
use Rattle.table.specs.Words.{rules_of}
use Rattle.checklist_open.proofs.Opening.{Staged, staged-empty, staged-next, staged-made}
use Rattle.checklist_open.proofs.framed.Goals.{else-loop-i-test, then-loop-i-test+else-i-n}
use Rattle.checklist_open.proofs.framed.Goals as goal

pub loop-i-init : goal.loop-i-init
loop-i-init c = staged-empty _ c.empty-empty.ensures

pub loop-i-preserved : goal.loop-i-preserved
loop-i-preserved c =
    let l = c.loop-i in
    staged-next l.words _ l.i _ (omega (arith, c.loop-i-test.true, c.requires.1)) l.invariant
    c.frame_rule-rule.ensures c.put_rule.ensures

pub make-requires : goal.make-requires
make-requires c =
    let l = c.loop-i in
    elim c.loop-i-test.branch [
      | else-loop-i-test w ↦ absurd (omega (arith, l.auto.i-end, w.loop-i-test.false))
      | then-loop-i-test+else-i-n w ↦
          (staged-next l.words _ l.i _ (omega (arith, l.auto.i-end, c.requires.1)) l.invariant
          w.frame_rule-rule.ensures (ap rules_of w.words-is ∙ w.put_rule.ensures)).well
    ]

-- the loop ends with the last file's rule
pub returns : goal.returns
returns c =
    let l = c.loop-i in
    staged-made c.args.n c.requires.0 c.requires.1 _ _ _
    (elim c.loop-i-test.branch [
      | else-loop-i-test z ↦ absurd (omega (arith, l.auto.i-end, z.loop-i-test.false))
      | then-loop-i-test+else-i-n z ↦
          let last : l.i ≡ c.args.n = omega (arith, l.auto.i-end) in
          subst (λ k. Staged (k + 1) c.loop-i-test.words) last
          (staged-next l.words _ l.i _ (omega (arith, l.auto.i-end, c.requires.1)) l.invariant
          z.frame_rule-rule.ensures (ap rules_of z.words-is ∙ z.put_rule.ensures))
    ])
    c.make.ensures
