-- `checklist_frame::marks_behind` tells whether every slot behind the frame is free or holds a mark. Assumes nothing.
use Prim.Native.Nat.{ℕ}
use native.Mathlib.Omega.{arith}
use Rattle.theory.proofs.Lists.{clash}
use Rattle.table.specs.declared.Rule.{Rule}
use Rattle.table.specs.Rules.{page_of}
use Rattle.table.specs.Words.{rules_of}
use Rattle.table.proofs.Words.{rules-length, told_of}
use Rattle.checklist_frame.specs.Parts.{FreeOrMark}
use Rattle.checklist_frame.proofs.Slots.{marks-more, marks-stop, marks-all}
use Rattle.checklist_frame.proofs.marks_behind.Goals as goal

-- The slot is free, or holds the fact of a mark of one of n files.
abbrev Marks : ℕ → Rule → Type 0
Marks n r = FreeOrMark n (page_of r)

pub loop-s-init : goal.loop-s-init
loop-s-init c = λ k q l m h. absurd (omega arith)

pub returns-then-not-free_or_mark : goal.returns-then-not-free_or_mark
returns-then-not-free_or_mark c =
    let told = told_of (Marks c.args.n) c.rule_at-rule.ensures c.free_or_mark.ensures in
    marks-stop (rules_of c.args.table.now) c.args.n c.loop-s.s c.loop-s.invariant (omega (arith, c.loop-s.auto.s))
    (λ w. clash (told.1 w) c.if-not-free_or_mark.true)

pub loop-s-preserved : goal.loop-s-preserved
loop-s-preserved c =
    let told = told_of (Marks c.args.n) c.rule_at-rule.ensures c.free_or_mark.ensures in
    marks-more (rules_of c.args.table.now) c.args.n c.loop-s.s c.loop-s.invariant
    (told.0 c.if-not-free_or_mark.false)

pub returns : goal.returns
returns c =
    let table = c.args.table.now in
    marks-all (rules_of table) c.args.n c.loop-s.s c.loop-s.invariant (omega (arith, rules-length table))
