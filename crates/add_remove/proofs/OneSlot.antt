-- A sound table with one slot changed: what its rules keep, that it is sound where each slot keeps what they ask for,
-- and how a call ends that changes it so. Assumes nothing.
use Rattle.std.specs.Prelude.{Ok}
use Prim.Native.Nat.{ℕ, ◌<◌}
use native.Mathlib.Omega.{arith}
use mathlib.Core.Path.{◌≡◌, refl, sym, ◌∙◌, ap, subst}
use mathlib.Core.Logic.{◌⊎◌, inl, inr, ⊎_elim}
use mathlib.Core.Bool.{Bool, true, false}
use mathlib.Core.List.{List}
use mathlib.Core.Option.{none, some}
use lib.Dec.{eqb}
use lib.ListN.{get_or, set, length-set}
use lib.Seq.{get_or-set_same, get_or-set_other}
use Rattle.theory.specs.Rules.{Program, all, Held, Ascending, Bounded, same}
use Rattle.theory.specs.Rules as theory
use Rattle.theory.specs.Dependencies.{NegativeCycle}
use Rattle.theory.specs.Sound.{SoundRules, SoundSlots}
use Rattle.theory.specs.Questions.{Question, first_no, rule_questions}
use Rattle.theory.specs.Limits.{document}
use Rattle.theory.proofs.Lists.{test, clash, eqb-eq, eqb_of}
use Rattle.theory.proofs.Pages.{all-length}
use Rattle.theory.proofs.Sameness.{ascending-same}
use Rattle.theory.proofs.Questions.{other-set, passed-bounded}
use Rattle.table.specs.declared.Rule.{Rule}
use Rattle.table.specs.declared.Table.{Table}
use Rattle.table.specs.Rules.{book_of, program_of, page_of, slot_of, past_rule}
use Rattle.table.specs.Words.{table_of, rules_of, depth_at, spoiler_at}
use Rattle.table.specs.Clean.{CleanRule}
use Rattle.table.specs.Sound.{Sound}
use Rattle.table.proofs.Programs.{book-length, book-set, program-set}
use Rattle.table.proofs.Words.{rules-length}
use Rattle.calls.specs.Ends as contract
use Rattle.calls.specs.Ends.{held, ChangeEnds}
use Rattle.labels.specs.Labelling.{Relabelled}

-- The table t, with r in slot s.
module _ (t : Table) (S : Sound t) (s : ℕ) (inside : s < document.slots) (r : Rule) where
  abbrev rows : List Rule
  rows = rules_of t.words

  abbrev pub after : List Rule
  after = set rows s r

  pub book-after : book_of after ≡ set (held t) s (page_of r)
  book-after = book-set rows s r

  pub program-after : program_of after ≡ set (all (held t)) s (slot_of r)
  program-after = program-set rows s r

  -- A rule held afterwards is the one put, or was held before.
  pub held_after :
      (k : ℕ) (q : theory.Rule) → Held (program_of after) k q
      → ((k ≡ s) × (slot_of r ≡ some q)) ⊎ ((k ≡ s → ⊥) × Held (all (held t)) k q)
  held_after k q h = ⊎_elim
      (λ (u : eqb k s ≡ true). (let e = eqb-eq k s u in
      inl (
        e,
        sym (get_or-set_same (all (held t)) s (slot_of r) none (omega (arith, S.rules.slots, all-length (held t))))
            ∙ ap (λ (z : ℕ). get_or (set (all (held t)) s (slot_of r)) z none) (sym e) ∙ now-held,
      )))
      (λ (u : eqb k s ≡ false). (let n : k ≡ s → ⊥ = λ e. clash (eqb_of k s e) u in
      inr (n, other-set (all (held t)) s k (slot_of r) q n now-held)))
      (test (eqb k s))
    where
      now-held : Held (set (all (held t)) s (slot_of r)) k q
      now-held = subst (λ (P : Program). Held P k q) program-after h

  -- What is put is clean, passes questions 1 to 4, has ascending lists and is not held by another slot, if it is a rule
  -- at all.
  module _ (clean : CleanRule r)
      (passes : (q : theory.Rule) → slot_of r ≡ some q → first_no (rule_questions document q) ≡ none)
      (ascending : (q : theory.Rule) → slot_of r ≡ some q → Ascending q)
      (fresh : (k : ℕ) (q : theory.Rule) → (k ≡ s → ⊥) → slot_of r ≡ some q → Held (all (held t)) k q → ⊥) where
    passes-after :
        (k : ℕ) (q : theory.Rule) → Held (program_of after) k q → first_no (rule_questions document q) ≡ none
    passes-after k q h =
        ⊎_elim (λ w. passes q w.1) (λ w. S.rules.passes k q w.1) (held_after k q h)

    ascending-after : (k : ℕ) (q : theory.Rule) → Held (program_of after) k q → Ascending q
    ascending-after k q h =
        ⊎_elim (λ w. ascending q w.1) (λ w. S.rules.ascending k q w.1) (held_after k q h)

    single-after :
        (j k : ℕ) (p q : theory.Rule) → Held (program_of after) j p → Held (program_of after) k q → same p q ≡ true
        → j ≡ k
    single-after j k p q h i u =
        let e = (ascending-same p q (ascending-after j p h) (ascending-after k q i)).0 u in
        ⊎_elim
        (λ w. ⊎_elim
        (λ v. w.0 ∙ sym v.0)
        (λ v. absurd (fresh k q v.0 (w.1 ∙ ap some e) v.1))
        (held_after k q i))
        (λ w. ⊎_elim
        (λ v. absurd (fresh j p w.0 (v.1 ∙ ap some (sym e)) w.1))
        (λ v. S.rules.single j k p q w.1 v.1 u)
        (held_after k q i))
        (held_after j p h)

    clean_after : (k : ℕ) → k < document.slots → CleanRule (get_or after k past_rule)
    clean_after k l = ⊎_elim
        (λ (u : eqb k s ≡ true). (let e = eqb-eq k s u in
        subst CleanRule (sym (ap (λ (z : ℕ). get_or after z past_rule) e
        ∙ get_or-set_same rows s r past_rule (omega (arith, rules-length t.words)))) clean))
        (λ (u : eqb k s ≡ false).
        subst CleanRule (sym (get_or-set_other rows s k r past_rule (λ e. clash (eqb_of k s e) u))) (S.clean k l))
        (test (eqb k s))

    rules-after : (NegativeCycle (program_of after) → ⊥) → SoundRules document (book_of after)
    rules-after free = record {
      slots = book-length after ∙ length-set rows s r ∙ rules-length t.words;
      passes = passes-after;
      ascending = ascending-after;
      single = single-after;
      acyclic = free;
    }

    -- Numbers w that hold these rules.
    module _ (w : List ℕ) (put : rules_of w ≡ after) where
      pub bounded-after : Bounded (program_of (rules_of w)) document.atoms
      bounded-after = rw put (passed-bounded document (program_of after) passes-after)

      -- v are those where each slot keeps what the rules ask for.
      module _ (v : List ℕ) (b : Bool) (L : Relabelled w v b) where
        pub rows-after : rules_of v ≡ after
        rows-after = L.rules ∙ put

        pub sound-after : b ≡ true → Sound (table_of v)
        sound-after e =
            let found = L.acyclic e in
            record {
              rules = subst (λ (rules : List Rule). SoundRules document (book_of rules)) (sym rows-after)
                  (rules-after (subst (λ (rules : List Rule). NegativeCycle (program_of rules) → ⊥) put found.0));
              kept = subst (λ (rules : List Rule). SoundSlots (book_of rules) (depth_at v) (spoiler_at v)) (sym L.rules)
                  found.1;
              clean = subst (λ (rules : List Rule). (k : ℕ) → k < document.slots → CleanRule (get_or rules k past_rule))
                  (sym rows-after) clean_after;
            }

        -- A change of this slot alone, whose questions are answered yes and by which no loop through a negation comes,
        -- ends accepted.
        pub accepted-after :
            (questions : List Question) → first_no questions ≡ none → (NegativeCycle (program_of after) → ⊥)
            → ChangeEnds questions (book_of after) t (Ok tt) (table_of v)
        accepted-after questions asked free =
            contract.accepted _ S asked (record { long = L.sized }) (ap book_of rows-after)
            (sound-after (not-cyclic b refl))
          where
            not-cyclic : (x : Bool) → b ≡ x → b ≡ true
            not-cyclic true i = i
            not-cyclic false i =
                absurd (free (subst (λ (rules : List Rule). NegativeCycle (program_of rules)) put (L.cyclic i).0))
