-- `checklist_frame::frame_run` finds how far the frame stands. Assumes nothing.
use Prim.Native.Nat.{ℕ, ◌+◌}
use native.Mathlib.Omega.{arith}
use mathlib.Core.Path.{◌≡◌}
use mathlib.Core.Option.{some}
use Rattle.theory.proofs.Lists.{clash}
use Rattle.table.specs.declared.Rule.{Rule}
use Rattle.table.specs.Rules.{active_in}
use Rattle.table.specs.Words.{rules_of}
use Rattle.table.proofs.Words.{told_of}
use Rattle.checklist_frame.specs.Frame.{frame}
use Rattle.checklist_frame.proofs.Slots.{no_start, one-start, one_more, run_ends, run-full}
use Rattle.checklist_frame.proofs.frame_run.Goals as goal

-- The slot holds the frame's rule of file i.
abbrev Holds : ℕ → Rule → Type 0
Holds i r = active_in r ≡ some (frame i)

pub returns-then-not-holds_fact : goal.returns-then-not-holds_fact
returns-then-not-holds_fact c =
    let told = told_of (Holds 0) c.rule_at-start.ensures c.holds_fact.ensures in
    no_start (rules_of c.args.table.now)
    (λ e. clash (told.1 e) c.if-not-holds_fact.true)

pub loop-n-init : goal.loop-n-init
loop-n-init c =
    let told = told_of (Holds 0) c.rule_at-start.ensures c.holds_fact.ensures in
    one-start (rules_of c.args.table.now) (told.0 c.if-not-holds_fact.false)

pub returns-then-not-holds_file : goal.returns-then-not-holds_file
returns-then-not-holds_file c =
    let a = c.args in
    let told = told_of (Holds (c.loop-n.n + 1)) c.rule_at-rule.ensures c.holds_file.ensures in
    run_ends (rules_of a.table.now) c.loop-n.n c.loop-n.invariant (omega (arith, c.loop-n-test.true))
    (λ e. clash (told.1 e) c.if-not-holds_file.true)

pub loop-n-preserved : goal.loop-n-preserved
loop-n-preserved c =
    let a = c.args in
    let told = told_of (Holds (c.loop-n.n + 1)) c.rule_at-rule.ensures c.holds_file.ensures in
    one_more (rules_of a.table.now) c.loop-n.n c.loop-n.invariant (told.0 c.if-not-holds_file.false)

pub returns : goal.returns
returns c =
    let a = c.args in
    run-full (rules_of a.table.now) c.loop-n.n c.loop-n.invariant c.loop-n-test.false
