-- `sheet_commands::add_rule` meets its contract. Assumes nothing.
use Prim.Native.Nat.{ℕ, ◌+◌, ◌-◌}
use native.Mathlib.Omega.{arith}
use mathlib.Core.Path.{◌≡◌, subst}
use lib.ListN.{take, drop, length-take}
use Rattle.table.specs.Questions.{rule_from}
use Rattle.calls.specs.Ends.{AddEnds}
use Rattle.sheet_meaning.specs.Lines as prints
use Rattle.sheet_commands.proofs.Still.{add-still}
use Rattle.sheet_commands.proofs.add_rule.Goals as goal

pub slice_bounds-add_to_sound-end : goal.slice_bounds-add_to_sound-end
slice_bounds-add_to_sound-end c =
    let long = c.well_formed.1.1.0.1.1.1.1.1.1.0.1.0.1 in
    omega (arith, c.requires.negatives_bound.0, long, length-take c.args.parsed.positives c.args.parsed.entries)

pub slice_bounds-add_to_sound-end-2 : goal.slice_bounds-add_to_sound-end-2
slice_bounds-add_to_sound-end-2 c =
    let long = c.well_formed.1.1.0.1.1.1.1.1.1.0.1.0.1 in
    omega (arith, c.requires.negatives_bound.0, long)

pub returns : goal.returns
returns c =
    let a = c.args in
    let p = a.parsed in
    let n : p.positives + p.negatives - p.positives ≡ p.negatives = omega arith in
    let ends =
    subst (λ (k : ℕ). AddEnds a.table
    (rule_from a.head (take p.positives p.entries) (take k (drop p.positives p.entries)))
    c.add_to_sound-answer.result c.add_to_sound-answer.new.table) n c.add_to_sound-answer.ensures in
    record {
      obeys = (λ line e. record { printed = _; prints = prints.add _ _ _ _ _ e ends; wrote = c.tell_add-next.ensures });
      sound_2 = add-still _ _ _ _ c.requires.sound c.add_to_sound-answer.ensures;
    }
