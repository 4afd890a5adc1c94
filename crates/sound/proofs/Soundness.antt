-- What the passes test is what soundness asks, both ways. Assumes nothing.
use Prim.Native.Nat.{ℕ, ◌<◌}
use native.Mathlib.Omega.{arith}
use mathlib.Core.Path.{◌≡◌, refl, sym, ◌∙◌, ap}
use mathlib.Core.Bool.{true}
use mathlib.Core.List.{List}
use mathlib.Core.Option.{none, some}
use lib.ListN.{get_or}
use Rattle.theory.specs.Rules.{Rule, Program, Pages, all, Held, Bounded, Ascending, same}
use Rattle.theory.specs.Dependencies.{NegativeCycle}
use Rattle.theory.specs.Questions.{first_no, rule_questions}
use Rattle.theory.specs.Sound.{SoundSlots}
use Rattle.theory.specs.Limits.{document}
use Rattle.theory.proofs.Questions.{held_below, passed-bounded}
use Rattle.theory.proofs.Sameness.{ascending-same}
use Rattle.table.specs.Rules.{book_of, past_rule}
use Rattle.table.specs.Words.{table_of, rules_of, depth_at, spoiler_at}
use Rattle.table.specs.Clean.{WellFormed}
use Rattle.table.specs.Sound.{Sound}
use Rattle.table.proofs.Programs.{book-length, program-at, program-length}
use Rattle.table.proofs.Words.{rules-length}
use Rattle.well_formed.specs.Slots.{Single}

-- A table's numbers.
module _ (table : List ℕ) where
  abbrev B : Pages
  B = book_of (rules_of table)

  abbrev P : Program
  P = all B

  abbrev pub WellFormedSlots : Type 0
  WellFormedSlots = (s : ℕ) → s < document.slots → WellFormed (get_or (rules_of table) s past_rule)

  held_low : (s : ℕ) (r : Rule) → Held P s r → s < document.slots
  held_low s r h = omega (arith, held_below P s r h, program-length (rules_of table), rules-length table)

  pub well-formed-passes :
      WellFormedSlots → (s : ℕ) (r : Rule) → Held P s r → first_no (rule_questions document r) ≡ none
  well-formed-passes W s r h = (W s (held_low s r h)).passes r (sym (program-at (rules_of table) s) ∙ h)

  pub well-formed-ascending : WellFormedSlots → (s : ℕ) (r : Rule) → Held P s r → Ascending r
  well-formed-ascending W s r h = (W s (held_low s r h)).ascending r (sym (program-at (rules_of table) s) ∙ h)

  -- where the lists ascend, rules that are the same are equal
  pub well-formed-single :
      WellFormedSlots → Single P
      → (s u : ℕ) (q r : Rule) → Held P s q → Held P u r → same q r ≡ true → s ≡ u
  well-formed-single W U s u q r h g z =
      let e = (ascending-same q r (well-formed-ascending W s q h) (well-formed-ascending W u r g)).0 z in
      U s u r (h ∙ ap some e) g

  pub well-formed-bounded : WellFormedSlots → Bounded P document.atoms
  well-formed-bounded W = passed-bounded document P (well-formed-passes W)

  -- What a sound table has.
  module _ (S : Sound (table_of table)) where
    pub sound-well-formed : WellFormedSlots
    sound-well-formed s l = record {
      clean = S.clean s l;
      passes = λ q e. S.rules.passes s q (program-at (rules_of table) s ∙ e);
      ascending = λ q e. S.rules.ascending s q (program-at (rules_of table) s ∙ e);
    }

    pub sound-single : Single P
    sound-single s u r h g =
        let a = S.rules.ascending s r h in
        S.rules.single s u r r h g ((ascending-same r r a a).1 refl)

  -- And what makes a table sound: well-formed slots that keep what they have to keep, no rule twice, no loop through a
  -- negation.
  pub sound-of :
      WellFormedSlots → SoundSlots B (depth_at table) (spoiler_at table) → Single P → (NegativeCycle P → ⊥)
      → Sound (table_of table)
  sound-of W K U A =
      record {
        rules = record {
          slots = book-length (rules_of table) ∙ rules-length table;
          passes = well-formed-passes W;
          ascending = well-formed-ascending W;
          single = well-formed-single W U;
          acyclic = A;
        };
        kept = K;
        clean = λ s l. (W s l).clean;
      }
