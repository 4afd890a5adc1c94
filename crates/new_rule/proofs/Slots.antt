-- Walks over the slots: one that holds a rule, and the lowest free one. Assumes nothing.
use Prim.Native.Nat.{ℕ, ◌≤◌, ◌<◌}
use native.Mathlib.Omega.{arith}
use mathlib.Core.Path.{◌≡◌, refl, sym, ◌∙◌, ap, subst}
use mathlib.Core.Logic.{◌↔◌}
use mathlib.Core.Bool.{Bool, true, false}
use mathlib.Core.List.{List}
use mathlib.Core.Option.{none, some}
use lib.ListN.{length, get_or}
use Rattle.std.specs.Bool.{MatchBool}
use Rattle.std.specs.List.{AllWithin, HoldsAt, range_with_len}
use Rattle.std.proofs.lemmas.List.FromFn.{get_or-range_with_len, length-range_with_len}
use Rattle.std.specs.Prelude.{Option, Some, None}
use Rattle.theory.specs.Rules.{Program, Held}
use Rattle.theory.specs.Rules as theory
use Rattle.theory.specs.Questions.{lowest_free}
use Rattle.theory.specs.Limits.{document}
use Rattle.theory.proofs.Lists.{clash}
use Rattle.theory.proofs.Questions.{held_below, lowest_free-of, lowest_free-none}
use Rattle.table.specs.declared.Rule.{Rule}
use Rattle.table.specs.declared.Slot.{Slot}
use Rattle.table.specs.Rules.{program_of, slot_of, rule_of, past_rule}
use Rattle.table.proofs.Programs.{program-at, program-length, slot-free, slot_held}
use Rattle.new_rule.specs.Parts.{LowestFree, at, nowhere}

-- Every slot up to i holds a rule.
abbrev pub AllHeld : Program → ℕ → Type 0
AllHeld P i = (k : ℕ) → k < i → (r : theory.Rule) × Held P k r

module _ (rules : List Rule) (i : ℕ) (long : length rules ≡ document.slots) (all : AllHeld (program_of rules) i) where
  pub free-here :
      (r : Rule) → r ≡ get_or rules i past_rule → i < document.slots → r.state ≡ 0
      → LowestFree (program_of rules) (Some (record { 0 = i }))
  free-here r read l e =
      at i l
      (lowest_free-of (program_of rules) i (omega (arith, program-length rules))
      (program-at rules i ∙ ap slot_of (sym read) ∙ slot-free r e) all)

  pub free-none : document.slots ≤ i → LowestFree (program_of rules) None
  free-none m = nowhere (lowest_free-none (program_of rules) (λ t j. all t (omega (arith, program-length rules))))

-- What was found, by cases.
module _ (P : Program) (r : Option Slot) (L : LowestFree P r) where
  pub lowest-at : (s : Slot) → r ≡ Some s → (s.0 < document.slots) × (lowest_free P ≡ some s.0)
  lowest-at s e = go s (subst (LowestFree P) e L)
    where
      go : (s : Slot) → LowestFree P (Some s) → (s.0 < document.slots) × (lowest_free P ≡ some s.0)
      go s (at k l q) = (l, q)

  pub lowest-none : r ≡ None → lowest_free P ≡ none
  lowest-none e = go (subst (LowestFree P) e L)
    where
      go : LowestFree P None → lowest_free P ≡ none
      go (nowhere q) = q

pub held-here :
    (rules : List Rule) (i : ℕ) (r : Rule) → r ≡ get_or rules i past_rule → (r.state ≡ 0 → ⊥)
    → (q : theory.Rule) × Held (program_of rules) i q
held-here rules i r read n = (rule_of r, program-at rules i ∙ ap slot_of (sym read) ∙ slot_held r n)

-- What `any` answers over the slots that may hold the rule.
module _ (rules : List Rule) (q : theory.Rule) where
  abbrev pub HoldsIn : ℕ → Type 0
  HoldsIn s = slot_of (get_or rules s past_rule) ≡ some q

  slot-number : (n k : ℕ) → k < n → get_or (range_with_len 0 n) k 0 ≡ k
  slot-number n k l = (let e = get_or-range_with_len 0 n k 0 l in omega (arith, e))

  pub any_holds :
      (n : ℕ) → length rules ≡ n → (t : Bool)
      → MatchBool t
      ((k : ℕ) × (k < length (range_with_len 0 n)) × HoldsAt HoldsIn (range_with_len 0 n) k)
      (AllWithin (λ s. HoldsIn s → ⊥) (range_with_len 0 n) 0 (length (range_with_len 0 n)))
      → (t ≡ true) ↔ ((s : ℕ) × Held (program_of rules) s q)
  any_holds n long true h = (
    λ u. (h.0, program-at rules h.0 ∙ subst HoldsIn (slot-number n h.0 (omega (arith, h.1, length-range_with_len 0 n))) (h.2 0)),
    λ w. refl,
  )
  any_holds n long false h = (
    λ u. absurd (clash u refl),
    λ w.
        let k = held_below (program_of rules) w.0 q w.1 in
        absurd (h w.0 0 (omega arith) (omega (arith, k, long, program-length rules, length-range_with_len 0 n))
        (subst HoldsIn (sym (slot-number n w.0 (omega (arith, k, long, program-length rules)))) (sym (program-at rules w.0) ∙ w.1))),
  )
