-- `file_records::held_slots` meets its contract. The loop keeps: the slots passed that hold rules are noted. Assumes nothing.
use Prim.Native.Nat.{min}
use native.Mathlib.Omega.{arith}
use mathlib.Core.Path.{◌∙◌, ap}
use Rattle.table.specs.declared.Rule.{Rule}
use Rattle.table.specs.Rules.{book_of}
use Rattle.table.specs.Words.{rules_of}
use Rattle.table.proofs.Programs.{book-length}
use Rattle.table.proofs.Words.{rules-length}
use Rattle.file_records.proofs.Held.{note-start, note-next, note-over}
use borrow.Author.Rules.{rules}
use Rattle.file_records.proofs.held_slots.Goals as goal

pub loop-i-init : goal.loop-i-init
loop-i-init c = note-start _ _ (search rules)

pub loop-i-preserved : goal.loop-i-preserved
loop-i-preserved c =
    let read = c.rule_at-rule.ensures in
    let l = c.loop-i in
    let table = c.args.table.now in
    let told = c.one_if_held-count.ensures ∙ ap (λ (r : Rule). min r.state 1) read in
    note-next (rules_of table) l.i _ _ _ (omega (arith, rules-length table)) (omega arith) told l.invariant

pub returns : goal.returns
returns c =
    let l = c.loop-i in
    let table = c.args.table.now in
    let long = book-length (rules_of table) ∙ rules-length table in
    note-over (book_of (rules_of table)) l.i _ _ (omega arith) (omega arith) l.invariant
