-- How an addition to a sound table ends, from the answers of its questions. Assumes nothing.
use Rattle.std.specs.Prelude.{Ok, Err}
use Prim.Native.Nat.{ℕ, ◌<◌}
use mathlib.Core.Path.{◌≡◌, refl, sym, ◌∙◌, ap}
use mathlib.Core.Bool.{Bool, true, false, not}
use mathlib.Core.List.{List, [], ◌∷◌}
use mathlib.Core.Option.{Option, none, some}
use lib.ListN.{set}
use Rattle.theory.specs.Rules.{all, Held, Bounded, any_rule, same, kept}
use Rattle.theory.specs.Rules as theory
use Rattle.theory.specs.Questions.{asks, first_no, rule_questions, add_questions}
use Rattle.theory.specs.Questions.{lowest_free, is_some, put_in, stratified, with_replaced}
use Rattle.theory.specs.Limits.{document}
use Rattle.theory.proofs.Lists.{clash}
use Rattle.theory.proofs.Rules.{any_rule-of}
use Rattle.theory.proofs.Sameness.{same_kept}
use Rattle.theory.proofs.Questions.{first_no-yes, first_no-here, first_no-take, first_no-before}
use Rattle.table.specs.declared.Rule.{Rule}
use Rattle.table.specs.declared.Table.{Table}
use Rattle.table.specs.Rules.{program_of}
use Rattle.table.specs.Words.{table_of, rules_of}
use Rattle.table.specs.Sound.{Sound}
use Rattle.refusals.specs.declared.Refusal.{Refusal}
use Rattle.refusals.specs.declared.Refusal.TheVariants as refusal
use Rattle.refusals.specs.Refusals.{number_of}
use Rattle.calls.specs.Ends as contract
use Rattle.calls.specs.Ends.{held, AddEnds}
use Rattle.labels.specs.Labelling.{Relabelled}
use Rattle.new_rule.specs.Parts.{SlotWith}
use Rattle.add_remove.proofs.Putting.{bounded-put, put-cyclic, put-stratified, put-sized, put-held}
use Rattle.add_remove.proofs.Putting.{put-sound}

-- An addition of the rule q to the table t.
module _ (t : Table) (S : Sound t) (q : theory.Rule) where
  pub refused-early :
      (f : Refusal) → some (number_of f) ≡ first_no (rule_questions document q) → AddEnds t q (Err f) t
  refused-early f e = contract.refused f S (first_no-before (rule_questions document q) _ _ (sym e))

  module _ (pass : first_no (rule_questions document q) ≡ none) where
    four : first_no (add_questions document (all (held t)) q)
        ≡ first_no
        (asks 5 (not (any_rule (same q) (all (held t))))
        ∷ asks 6 (is_some (lowest_free (all (held t))))
        ∷ asks 7 (stratified (put_in (all (held t)) (lowest_free (all (held t))) (kept q)))
        ∷ [])
    four = first_no-take 4 (add_questions document (all (held t)) q) pass

    pub refused-same : any_rule (same q) (all (held t)) ≡ true → AddEnds t q (Err refusal.SameRule) t
    refused-same u = contract.refused refusal.SameRule S (four ∙ first_no-here _ _ (ap not u))

    module _ (other : any_rule (same q) (all (held t)) ≡ false) where
      five : first_no (add_questions document (all (held t)) q)
          ≡ first_no
          (asks 6 (is_some (lowest_free (all (held t))))
          ∷ asks 7 (stratified (put_in (all (held t)) (lowest_free (all (held t))) (kept q)))
          ∷ [])
      five = four ∙ first_no-yes _ _ (ap not other)

      pub refused_full : lowest_free (all (held t)) ≡ none → AddEnds t q (Err refusal.TableFull) t
      refused_full e = contract.refused refusal.TableFull S (five ∙ first_no-here _ _ (ap is_some e))

      alone : (k : ℕ) → Held (all (held t)) k (kept q) → ⊥
      alone k h = clash (any_rule-of (same q) (all (held t)) k (kept q) h (same_kept q)) other

      -- the rule is put into the lowest free slot
      module _
          (s : ℕ) (inside : s < document.slots) (low : lowest_free (all (held t)) ≡ some s) (r : Rule)
          (R : SlotWith (kept q) r) (w : List ℕ) (put : rules_of w ≡ set (rules_of t.words) s r)
        where
          six : first_no (add_questions document (all (held t)) q)
              ≡ first_no (asks 7 (stratified (with_replaced (all (held t)) s q)) ∷ [])
          six =
              five ∙ first_no-yes _ _ (ap is_some low)
              ∙ ap (λ (o : Option ℕ). first_no (asks 7 (stratified (put_in (all (held t)) o (kept q))) ∷ [])) low

          pub bounded-changed : Bounded (program_of (rules_of w)) document.atoms
          bounded-changed = bounded-put t S q pass s inside (λ k n. alone k) r R w put

          module _ (v : List ℕ) (b : Bool) (L : Relabelled w v b) where
            pub refused-cycle : b ≡ false → AddEnds t q (Err refusal.NegativeCycle) t
            refused-cycle e =
                contract.refused refusal.NegativeCycle S
                (six ∙ first_no-here _ _ (put-cyclic t S q pass s inside (λ k n. alone k) r R w put v b L e))

            pub add-ends : b ≡ true → AddEnds t q (Ok (record { 0 = s })) (table_of v)
            add-ends e =
                contract.accepted (record { 0 = s }) _ S
                (six ∙ first_no-yes _ _ (put-stratified t S q pass s inside (λ k n. alone k) r R w put v b L e)
                ∙ (unfold first_no in refl))
                low (put-sized t S q pass s inside (λ k n. alone k) r R w put v b L)
                (put-held t S q pass s inside (λ k n. alone k) r R w put v b L)
                (put-sound t S q pass s inside (λ k n. alone k) r R w put v b L e)
