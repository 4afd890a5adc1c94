-- How the replacement of a rule of a sound table ends, from the answers of its questions. Assumes nothing.
use Rattle.std.specs.Prelude.{Ok, Err}
use Prim.Native.Nat.{ℕ, ◌<◌}
use mathlib.Core.Path.{◌≡◌, refl, sym, ◌∙◌, ap, subst}
use mathlib.Core.Logic.{◌↔◌}
use mathlib.Core.Bool.{Bool, true, false, not}
use mathlib.Core.List.{List, [], ◌∷◌}
use mathlib.Core.Option.{none, some}
use lib.ListN.{set}
use lib.Seq.{set-set}
use Rattle.theory.specs.Rules.{Program, all, Held, Ascending, Bounded, any_rule, same, kept}
use Rattle.theory.specs.Rules as theory
use Rattle.theory.specs.Questions.{asks, first_no, rule_questions, slot_questions, replace_questions, stratified}
use Rattle.theory.specs.Questions.{with_replaced}
use Rattle.theory.specs.Limits.{document}
use Rattle.theory.proofs.Lists.{clash}
use Rattle.theory.proofs.Rules.{any_rule-of}
use Rattle.theory.proofs.Questions.{first_no-yes, first_no-here, first_no-past, first_no-before, held_below, set_other}
use Rattle.theory.proofs.Removal.{freed}
use Rattle.theory.proofs.Replacing.{old-rule}
use Rattle.theory.proofs.Sameness.{same_kept}
use Rattle.table.specs.declared.Rule.{Rule}
use Rattle.table.specs.declared.Table.{Table}
use Rattle.table.specs.Rules.{program_of, rule_of}
use Rattle.table.specs.Words.{table_of, rules_of}
use Rattle.table.specs.Clean.{free_rule}
use Rattle.table.specs.Sound.{Sound}
use Rattle.table.proofs.Programs.{program-set}
use Rattle.refusals.specs.declared.Refusal.{Refusal}
use Rattle.refusals.specs.declared.Refusal.TheVariants as refusal
use Rattle.refusals.specs.Refusals.{number_of}
use Rattle.calls.specs.Ends as contract
use Rattle.calls.specs.Ends.{held, ReplaceEnds}
use Rattle.calls.proofs.Asking.{slot-low}
use Rattle.labels.specs.Labelling.{Relabelled}
use Rattle.new_rule.specs.Parts.{SlotWith}
use Rattle.add_remove.proofs.Putting.{same-told, bounded-put, put-cyclic, put-stratified, put-held}
use Rattle.add_remove.proofs.Putting.{put-sized, put-sound}

-- The rule q is to replace the one in slot s of the table t, which passed questions 8 and 9.
module _
    (t : Table) (S : Sound t) (s : ℕ) (asked : first_no (slot_questions document (all (held t)) s) ≡ none)
    (q : theory.Rule)
  where
    inside : s < document.slots
    inside = slot-low t s (record { 0 = s }) (record { sound = S; yes = asked; slot = refl })

    pub refused-early :
        (f : Refusal) → some (number_of f) ≡ first_no (rule_questions document q)
        → ReplaceEnds t s q (Err f) t
    refused-early f e =
        contract.refused f S (first_no-past (slot_questions document (all (held t)) s) _ asked
        ∙ first_no-before (rule_questions document q) _ _ (sym e))

    module _ (pass : first_no (rule_questions document q) ≡ none) where
      four : first_no (replace_questions document (all (held t)) s q)
          ≡ first_no
          (asks 5 (not (any_rule (same q) (set (all (held t)) s none)))
          ∷ asks 7 (stratified (with_replaced (all (held t)) s q))
          ∷ [])
      four =
          first_no-past (slot_questions document (all (held t)) s) _ asked
          ∙ first_no-past (rule_questions document q) _ pass

      -- the slots without the old rule
      module _
          (f : Rule) (is_free : f ≡ free_rule) (rest : List ℕ) (left : rules_of rest ≡ set (rules_of t.words) s f)
        where
          rest-program : program_of (rules_of rest) ≡ set (all (held t)) s none
          rest-program =
              ap program_of (left ∙ ap (set (rules_of t.words) s) is_free)
              ∙ program-set (rules_of t.words) s free_rule

          rest-ascending : (k : ℕ) (p : theory.Rule) → Held (program_of (rules_of rest)) k p → Ascending p
          rest-ascending k p h =
              let w = old-rule document (all (held t)) s asked in
              S.rules.ascending k p (freed (all (held t)) s k p (held_below (all (held t)) s w.0 w.1)
              (subst (λ (P : Program). Held P k p) rest-program h)).1

          pub rest-told :
              (r : Rule) → SlotWith (kept q) r → (b v : Bool)
              → (b ≡ true) ↔ ((k : ℕ) × Held (program_of (rules_of rest)) k (rule_of r)) → b ≡ v
              → any_rule (same q) (set (all (held t)) s none) ≡ v
          rest-told r R b v e u =
              ap (any_rule (same q)) (sym rest-program)
              ∙ same-told (program_of (rules_of rest)) rest-ascending q pass r R b v e u

          pub put-behind :
              (r : Rule) (w : List ℕ) → rules_of w ≡ set (rules_of rest) s r
              → rules_of w ≡ set (rules_of t.words) s r
          put-behind r w put =
              put ∙ ap (λ (rs : List Rule). set rs s r) left ∙ set-set (rules_of t.words) s f r

      pub refused-same :
          any_rule (same q) (set (all (held t)) s none) ≡ true → ReplaceEnds t s q (Err refusal.SameRule) t
      refused-same u = contract.refused refusal.SameRule S (four ∙ first_no-here _ _ (ap not u))

      -- the rule is put into the slot
      module _
          (other : any_rule (same q) (set (all (held t)) s none) ≡ false) (r : Rule) (R : SlotWith (kept q) r)
          (w : List ℕ) (put : rules_of w ≡ set (rules_of t.words) s r)
        where
          alone : (k : ℕ) → (k ≡ s → ⊥) → Held (all (held t)) k (kept q) → ⊥
          alone k n h =
              clash (any_rule-of (same q) (set (all (held t)) s none) k (kept q)
              (set_other (all (held t)) s k none (kept q) n h) (same_kept q)) other

          five : first_no (replace_questions document (all (held t)) s q)
              ≡ first_no (asks 7 (stratified (with_replaced (all (held t)) s q)) ∷ [])
          five = four ∙ first_no-yes _ _ (ap not other)

          pub bounded-changed : Bounded (program_of (rules_of w)) document.atoms
          bounded-changed = bounded-put t S q pass s inside alone r R w put

          module _ (v : List ℕ) (b : Bool) (L : Relabelled w v b) where
            pub refused-cycle : b ≡ false → ReplaceEnds t s q (Err refusal.NegativeCycle) t
            refused-cycle e =
                contract.refused refusal.NegativeCycle S
                (five ∙ first_no-here _ _ (put-cyclic t S q pass s inside alone r R w put v b L e))

            pub replace-ends : b ≡ true → ReplaceEnds t s q (Ok tt) (table_of v)
            replace-ends e =
                contract.accepted _ S
                (five ∙ first_no-yes _ _ (put-stratified t S q pass s inside alone r R w put v b L e)
                ∙ (unfold first_no in refl))
                (put-sized t S q pass s inside alone r R w put v b L)
                (put-held t S q pass s inside alone r R w put v b L)
                (put-sound t S q pass s inside alone r R w put v b L e)
