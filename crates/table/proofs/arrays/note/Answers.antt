-- `table::arrays::note` meets its contract. Assumes nothing.
use mathlib.Core.Path.{refl, sym, ◌∙◌}
use mathlib.Core.Option.{none-ne-some}
use Rattle.table.proofs.Programs.{slot_held, slot-state}
use Rattle.table.proofs.arrays.note.Goals as goal

pub returns-then-rule-eq0 : goal.returns-then-rule-eq0
returns-then-rule-eq0 c =
    record {
      free = λ e. (refl, refl, refl);
      idle = λ e. (refl, refl, refl);
      kept = λ r e n. absurd (slot-state c.args.rule r e c.if-rule-eq0.true);
    }

pub returns-then-depth-eq0 : goal.returns-then-depth-eq0
returns-then-depth-eq0 c =
    record {
      free = λ e. (refl, refl, refl);
      idle = λ e. (refl, refl, refl);
      kept = λ r e n. absurd (n c.if-depth-eq0.true);
    }

pub returns : goal.returns
returns c =
    record {
      free = λ e. absurd (none-ne-some _ (sym e ∙ slot_held c.args.rule c.if-rule-eq0.false));
      idle = λ e. absurd (c.if-depth-eq0.false e);
      kept = λ r e n. record {
        flags = c.mark.ensures;
        depths = c.set_number.ensures;
        slots = c.set_slot.ensures;
      };
    }
