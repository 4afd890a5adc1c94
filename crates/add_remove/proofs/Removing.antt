-- How a removal from a sound table ends, from the answers of its questions. Assumes nothing.
use Rattle.std.specs.Prelude.{Ok}
use Prim.Native.Nat.{ℕ, ◌<◌}
use mathlib.Core.Path.{◌≡◌, ◌∙◌, ap₂, subst}
use mathlib.Core.Logic.{⊎_elim}
use mathlib.Core.Bool.{Bool}
use mathlib.Core.List.{List}
use mathlib.Core.Option.{none, some, none-ne-some}
use lib.ListN.{set}
use Rattle.theory.specs.Rules.{Pages, all, Held, Ascending, Bounded}
use Rattle.theory.specs.Rules as theory
use Rattle.theory.specs.Dependencies.{NegativeCycle}
use Rattle.theory.specs.Questions.{first_no, rule_questions, slot_questions}
use Rattle.theory.specs.Limits.{document}
use Rattle.theory.proofs.Cycles.{fewer-cycle}
use Rattle.table.specs.declared.Rule.{Rule}
use Rattle.table.specs.declared.Slot.{Slot}
use Rattle.table.specs.declared.Table.{Table}
use Rattle.table.specs.Rules.{program_of, slot_of}
use Rattle.table.specs.Words.{table_of, rules_of}
use Rattle.table.specs.Clean.{free_rule}
use Rattle.table.specs.Sound.{Sound}
use Rattle.table.proofs.Empty.{free-clean}
use Rattle.calls.specs.Ends.{held, ChangeEnds, RemoveEnds}
use Rattle.calls.proofs.Asking.{PassesSlot, slot-low}
use Rattle.labels.specs.Labelling.{Relabelled}
use Rattle.add_remove.proofs.OneSlot.{accepted-after, book-after, held_after, bounded-after}

-- A removal of the rule in slot s of the table t.
module _ (t : Table) (S : Sound t) (s : ℕ) (inside : s < document.slots) where
  passes : (p : theory.Rule) → slot_of free_rule ≡ some p → first_no (rule_questions document p) ≡ none
  passes p h = absurd (none-ne-some p h)

  ascending : (p : theory.Rule) → slot_of free_rule ≡ some p → Ascending p
  ascending p h = absurd (none-ne-some p h)

  fresh : (k : ℕ) (p : theory.Rule) → (k ≡ s → ⊥) → slot_of free_rule ≡ some p → Held (all (held t)) k p → ⊥
  fresh k p n h i = none-ne-some p h

  abbrev rest : List Rule
  rest = set (rules_of t.words) s free_rule

  -- every rule of the rest was held before
  rest-acyclic : NegativeCycle (program_of rest) → ⊥
  rest-acyclic c = S.rules.acyclic (fewer-cycle (all (held t)) (program_of rest)
      (λ k p h. ⊎_elim
      (λ w. absurd (none-ne-some p w.1))
      (λ w. (k, w.1))
      (held_after t S s inside free_rule k p h)) c)

  module _ (w : List ℕ) (put : rules_of w ≡ rest) where
    bounded-freed : Bounded (program_of (rules_of w)) document.atoms
    bounded-freed = bounded-after t S s inside free_rule free-clean passes ascending fresh w put

    freed :
        first_no (slot_questions document (all (held t)) s) ≡ none → (v : List ℕ) (b : Bool) → Relabelled w v b
        → RemoveEnds t s (Ok tt) (table_of v)
    freed asked v b L =
        subst (λ (B : Pages). ChangeEnds (slot_questions document (all (held t)) s) B t (Ok tt) (table_of v))
        (book-after t S s inside free_rule)
        (accepted-after t S s inside free_rule free-clean passes ascending fresh w put v b L _ asked rest-acyclic)

-- The numbers w, where slot x, which passed its questions, holds what a free slot does.
module _
    (t : Table) (s : ℕ) (x : Slot) (Q : PassesSlot t s x) (f : Rule) (is_free : f ≡ free_rule) (w : List ℕ)
    (put : rules_of w ≡ set (rules_of t.words) x.0 f)
  where
    left : rules_of w ≡ set (rules_of t.words) s free_rule
    left = put ∙ ap₂ (λ (k : ℕ) (r : Rule). set (rules_of t.words) k r) Q.slot is_free

    pub bounded-rest : Bounded (program_of (rules_of w)) document.atoms
    bounded-rest = bounded-freed t Q.sound s (slot-low t s x Q) w left

    pub remove-ends : (v : List ℕ) (b : Bool) → Relabelled w v b → RemoveEnds t s (Ok tt) (table_of v)
    remove-ends = freed t Q.sound s (slot-low t s x Q) w left Q.yes
