-- A rule put into a slot of a sound table, free or with a rule that gives way: what the answers to the questions tell,
-- and the table after it. Assumes nothing.
use Prim.Native.Nat.{ℕ, ◌<◌}
use mathlib.Core.Path.{◌≡◌, sym, ◌∙◌, ap, subst}
use mathlib.Core.Logic.{◌↔◌}
use mathlib.Core.Bool.{Bool, true, false}
use mathlib.Core.List.{List}
use mathlib.Core.Option.{none, some, some-injective}
use lib.ListN.{set}
use Rattle.theory.specs.Rules.{Program, all, rule_on, new_page, Held, Ascending, Bounded, any_rule, same, kept}
use Rattle.theory.specs.Rules as theory
use Rattle.theory.specs.Dependencies.{NegativeCycle}
use Rattle.theory.specs.Questions.{first_no, rule_questions, stratified, with_replaced}
use Rattle.theory.specs.Limits.{document}
use Rattle.theory.proofs.Lists.{same_test}
use Rattle.theory.proofs.Pages.{all_set}
use Rattle.theory.proofs.Sameness.{same-held, kept-passes, kept-ascending}
use Rattle.theory.proofs.Cycles.{cycle-found, stratified-iff}
use Rattle.table.specs.declared.Rule.{Rule}
use Rattle.table.specs.declared.Table.{Table}
use Rattle.table.specs.Rules.{book_of, program_of, rule_of, slot_of}
use Rattle.table.specs.Words.{table_of, rules_of}
use Rattle.table.specs.Sound.{Sound}
use Rattle.table.proofs.Programs.{slot_rule}
use Rattle.calls.specs.Ends.{held, Sized}
use Rattle.labels.specs.Labelling.{Relabelled}
use Rattle.new_rule.specs.Parts.{SlotWith}
use Rattle.add_remove.proofs.OneSlot.{book-after, bounded-after, sound-after}

-- Whether a program of ascending lists holds the rule of a slot made for q tells whether it holds the same rule as q.
pub same-told :
    (P : Program) → ((s : ℕ) (p : theory.Rule) → Held P s p → Ascending p) → (q : theory.Rule)
    → first_no (rule_questions document q) ≡ none → (r : Rule) → SlotWith (kept q) r → (b v : Bool)
    → (b ≡ true) ↔ ((s : ℕ) × Held P s (rule_of r)) → b ≡ v → any_rule (same q) P ≡ v
same-told P up q pass r R b v e u =
    let one : rule_of r ≡ kept q = slot_rule r (kept q) (ap rule_on R.held) in
    let told = same-held document P q up pass in
    same_test (any_rule (same q) P) b
    (λ y. (let w = told.0 y in e.1 (w.0, subst (Held P w.0) (sym one) w.1)))
    (λ y. (let w = e.0 y in told.1 (w.0, subst (Held P w.0) one w.1)))
    ∙ u

-- The slot r, made for the rule q, which passes questions 1 to 4, is put as slot s of the table t. No other slot holds
-- that rule.
module _
    (t : Table) (S : Sound t) (q : theory.Rule) (pass : first_no (rule_questions document q) ≡ none) (s : ℕ)
    (inside : s < document.slots) (alone : (k : ℕ) → (k ≡ s → ⊥) → Held (all (held t)) k (kept q) → ⊥) (r : Rule)
    (R : SlotWith (kept q) r)
  where
    one : (p : theory.Rule) → slot_of r ≡ some p → kept q ≡ p
    one p h = some-injective (kept q) p (sym (ap rule_on R.held) ∙ h)

    passes : (p : theory.Rule) → slot_of r ≡ some p → first_no (rule_questions document p) ≡ none
    passes p h = subst (λ (z : theory.Rule). first_no (rule_questions document z) ≡ none) (one p h)
        (kept-passes document q pass)

    ascending : (p : theory.Rule) → slot_of r ≡ some p → Ascending p
    ascending p h = subst Ascending (one p h) (kept-ascending document q pass)

    fresh : (k : ℕ) (p : theory.Rule) → (k ≡ s → ⊥) → slot_of r ≡ some p → Held (all (held t)) k p → ⊥
    fresh k p n h i = alone k n (subst (Held (all (held t)) k) (sym (one p h)) i)

    -- w are the numbers with that rule, v those where each slot keeps what the rules ask for.
    module _ (w : List ℕ) (put : rules_of w ≡ set (rules_of t.words) s r) where
      book-put : book_of (rules_of w) ≡ set (held t) s (some (new_page q))
      book-put = ap book_of put ∙ book-after t S s inside r ∙ ap (set (held t) s) R.held

      program-put : program_of (rules_of w) ≡ with_replaced (all (held t)) s q
      program-put = ap all book-put ∙ all_set (held t) s (some (new_page q))

      pub bounded-put : Bounded (program_of (rules_of w)) document.atoms
      bounded-put = bounded-after t S s inside r R.clean passes ascending fresh w put

      module _ (v : List ℕ) (b : Bool) (L : Relabelled w v b) where
        pub put-cyclic : b ≡ false → stratified (with_replaced (all (held t)) s q) ≡ false
        put-cyclic e = cycle-found _ (subst NegativeCycle program-put (L.cyclic e).0)

        pub put-stratified : b ≡ true → stratified (with_replaced (all (held t)) s q) ≡ true
        put-stratified e = (stratified-iff _).1 (λ c. (L.acyclic e).0 (subst NegativeCycle (sym program-put) c))

        pub put-held : held (table_of v) ≡ set (held t) s (some (new_page q))
        put-held = ap book_of L.rules ∙ book-put

        pub put-sized : Sized (table_of v)
        put-sized = record { long = L.sized }

        pub put-sound : b ≡ true → Sound (table_of v)
        put-sound = sound-after t S s inside r R.clean passes ascending fresh w put v b L
