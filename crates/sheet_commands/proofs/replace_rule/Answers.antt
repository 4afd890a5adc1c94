-- `sheet_commands::replace_rule` meets its contract. Assumes nothing.
use Prim.Native.Nat.{ℕ, ◌+◌, ◌-◌}
use native.Mathlib.Omega.{arith}
use mathlib.Core.Path.{◌≡◌, subst}
use lib.ListN.{take, drop, length-take}
use Rattle.fields.specs.Texts.{bytes}
use Rattle.table.specs.Questions.{rule_from}
use Rattle.calls.specs.Ends.{ReplaceEnds}
use Rattle.sheet_meaning.specs.Lines as prints
use Rattle.sheet_commands.proofs.Still.{change-still}
use Rattle.sheet_commands.proofs.replace_rule.Goals as goal

pub slice_bounds-replace_in_sound-end : goal.slice_bounds-replace_in_sound-end
slice_bounds-replace_in_sound-end c =
    let long = c.well_formed.1.1.1.0.1.1.1.1.1.1.0.1.0.1 in
    omega (arith, c.requires.negatives_bound.0, long, length-take c.args.parsed.positives c.args.parsed.entries)

pub slice_bounds-replace_in_sound-end-2 : goal.slice_bounds-replace_in_sound-end-2
slice_bounds-replace_in_sound-end-2 c =
    let long = c.well_formed.1.1.1.0.1.1.1.1.1.1.0.1.0.1 in
    omega (arith, c.requires.negatives_bound.0, long)

pub returns : goal.returns
unfolding bytes
returns c =
    let a = c.args in
    let p = a.parsed in
    let n : p.positives + p.negatives - p.positives ≡ p.negatives = omega arith in
    let ends =
    subst (λ (k : ℕ). ReplaceEnds a.table a.slot
    (rule_from a.head (take p.positives p.entries) (take k (drop p.positives p.entries)))
    c.replace_in_sound-answer.result c.replace_in_sound-answer.new.table) n c.replace_in_sound-answer.ensures in
    record {
      obeys = (λ line e. record { printed = _; prints = prints.replace _ _ _ _ _ _ e ends; wrote = c.tell_change-next.ensures });
      sound_2 = change-still _ _ _ _ _ c.requires.sound c.replace_in_sound-answer.ensures;
    }
