-- `replacing::replace_in_sound` ends as its contract says. Assumes nothing.
use Rattle.std.proofs.lemmas.Result.{err_from_is_err_and}
use Prim.Native.Nat.{ℕ}
use mathlib.Core.Path.{◌≡◌, sym, subst}
use mathlib.Core.Option.{none}
use Rattle.theory.specs.Rules.{all}
use Rattle.theory.specs.Questions.{first_no, slot_questions}
use Rattle.theory.specs.Limits.{document}
use Rattle.theory.proofs.Questions.{first_no-before}
use Rattle.table.specs.Questions.{rule_from}
use Rattle.calls.specs.Ends.{held, ReplaceEnds}
use Rattle.calls.proofs.Asking.{slot-passed, change-refused}
use Rattle.replacing.proofs.replace_in_sound.Goals as goal

pub replace_held-requires : goal.replace_held-requires
replace_held-requires c =
    let t = c.args.table.now in
    let Q = slot-passed _ _ _ c.slot_asked.ensures _ c.in_ok-s.was in record {
      sound = Q.sound;
      slot_value = subst (λ (k : ℕ). first_no (slot_questions document (all (held t)) k) ≡ none) (sym Q.slot) Q.yes;
    }

pub returns-in_err-s : goal.returns-in_err-s
returns-in_err-s c =
    let t = c.args.table.now in
    let p = err_from_is_err_and c.from_residual.result c.from_residual.ensures.1 in
    rw (p.1, p.2)
    (change-refused t c.args.slot _ c.slot_asked.ensures _ c.in_err-s.was _ _
    (λ k no. first_no-before (slot_questions document (all (held t)) c.args.slot) _ k no))

pub returns : goal.returns
returns c =
    let a = c.args in
    let Q = slot-passed _ _ _ c.slot_asked.ensures _ c.in_ok-s.was in
    let q = rule_from a.head a.positives.now a.negatives.now in
    subst (λ (k : ℕ). ReplaceEnds a.table.now k q c.replace_held.result c.replace_held.new.table) Q.slot
    c.replace_held.ensures
