-- Laws of slots that a sound table can have, by what is tested of them. Assumes nothing.
use Prim.Native.Nat.{ℕ, ◌+◌, ◌≤◌}
use native.Mathlib.Omega.{arith}
use mathlib.Core.Path.{◌≡◌, refl, sym, ◌∙◌, ap, subst}
use mathlib.Core.Logic.{◌↔◌}
use mathlib.Core.Bool.{Bool, true, false, not}
use mathlib.Core.List.{List}
use mathlib.Core.Option.{none}
use lib.Dec.{leb, ltb}
use lib.ListN.{length, take, drop, length-map, length-take}
use lib.Seq.{slice}
use Rattle.theory.specs.Lists.{every}
use Rattle.theory.specs.Rules as theory
use Rattle.theory.specs.Questions.{first_no, rule_questions}
use Rattle.theory.specs.Limits.{document}
use Rattle.theory.proofs.Lists.{and_l, and-of, and_r, le-leb, not-true, not-false, clash}
use Rattle.theory.proofs.Sorting.{ascending-distinct}
use Rattle.theory.proofs.Questions.{first_no-none, first_no-yes}
use Rattle.table.specs.declared.Atom.{Atom}
use Rattle.table.specs.declared.Rule.{Rule}
use Rattle.table.specs.Rules.{numbers, rule_of}
use Rattle.table.specs.Clean.{CleanRule, WellFormed}
use Rattle.table.proofs.Entries.{positives-are, negatives-are}
use Rattle.table.proofs.Walks.{every_append}
use Rattle.table.proofs.Programs.{slot_rule, slot_held}
use Rattle.questions.proofs.Cleanness.{is_not}
use Rattle.questions.proofs.Ascents.{Fits}

-- A part is not longer than was asked for.
part-short : (n : ℕ) (xs : List Atom) → length (numbers (take n xs)) ≤ n
part-short n xs = simp (length-map, length-take) (omega arith)

-- The test of question 3 of one entry.
abbrev below : ℕ → Bool
below x = ltb x document.atoms

-- A clean slot that holds a rule: what is asked of the rule, one thing after the other.
module _ (r : Rule) (long : length r.entries ≡ document.entries) (clean : CleanRule r) (held : r.state ≡ 0 → ⊥)
  where
    -- what a well-formed slot's rule has
    answers : WellFormed r → first_no (rule_questions document (rule_of r)) ≡ none
    answers w = w.passes (rule_of r) (slot_held r held)

    fits : WellFormed r → Fits (rule_of r).positives × Fits (rule_of r).negatives
    fits w =
        let a = w.ascending (rule_of r) (slot_held r held) in
        let two = first_no-none _ _ (first_no-none _ _ (answers w)).1 in
        let both = sym (every_append below (rule_of r).positives (rule_of r).negatives)
        ∙ (first_no-none _ _ two.1).0 in (
          (a.positives, and_l (every below (rule_of r).positives) _ both),
          (a.negatives, and_r (every below (rule_of r).positives) _ both),
        )

    -- the lists fit the entries, so question 2 is answered yes
    few : leb (length (rule_of r).positives + length (rule_of r).negatives) document.entries ≡ true
    few =
        le-leb (length (rule_of r).positives + length (rule_of r).negatives) document.entries
        (omega (
          arith,
          clean.fits,
          part-short r.positives r.entries,
          part-short r.negatives (drop r.positives r.entries),
        ))

    module _ (h : Bool) (head-told : h ≡ ltb r.head.0 document.atoms) where
      pub head-past : not h ≡ true → (false ≡ true) ↔ WellFormed r
      head-past u = is_not (λ w. clash (head-told ∙ (first_no-none _ _ (answers w)).0) (not-true h u))

      module _ (head-fits : not h ≡ false) (p : Bool)
          (positives-told : (p ≡ true) ↔ Fits (numbers (slice 0 r.positives r.entries))) where
        positives-part : (rule_of r).positives ≡ numbers (slice 0 r.positives r.entries)
        positives-part = positives-are r document.entries long r.positives (omega (arith, clean.fits))

        pub positives-unfit : not p ≡ true → (false ≡ true) ↔ WellFormed r
        positives-unfit u =
            is_not (λ w. clash (positives-told.1 (subst Fits positives-part (fits w).0)) (not-true p u))

        module _ (positives-fit : not p ≡ false) (n : Bool)
            (negatives-told :
            (n ≡ true) ↔ Fits (numbers (slice r.positives (r.positives + r.negatives) r.entries))) where
          negatives-part :
              (rule_of r).negatives ≡ numbers (slice r.positives (r.positives + r.negatives) r.entries)
          negatives-part =
              negatives-are r document.entries long r.positives (omega (arith, clean.fits))
              (r.positives + r.negatives) (omega (arith, clean.fits))

          passes :
              Fits (rule_of r).positives → Fits (rule_of r).negatives
              → first_no (rule_questions document (rule_of r)) ≡ none
          passes a b =
              first_no-yes _ _ (sym head-told ∙ not-false h head-fits)
              ∙ first_no-yes _ _ few
              ∙ first_no-yes _ _ (every_append below (rule_of r).positives (rule_of r).negatives
              ∙ and-of _ _ a.1 b.1)
              ∙ first_no-yes _ _ (and-of _ _ (ascending-distinct _ a.0) (ascending-distinct _ b.0))
              ∙ (unfold first_no in refl)

          well : n ≡ true → WellFormed r
          well v =
              let a = subst Fits (sym positives-part) (positives-told.0 (not-false p positives-fit)) in
              let b = subst Fits (sym negatives-part) (negatives-told.0 v) in
              record {
                clean = clean;
                passes = λ q s.
                    ap (λ z. first_no (rule_questions document z)) (sym (slot_rule r q s)) ∙ passes a b;
                ascending = λ q s.
                    subst theory.Ascending (slot_rule r q s) (record { positives = a.0; negatives = b.0 });
              }

          pub negatives-decide : (n ≡ true) ↔ WellFormed r
          negatives-decide = (λ v. well v, λ w. negatives-told.1 (subst Fits negatives-part (fits w).1))
