-- Laws of the program that the slots hold, and of the labels kept. Assumes nothing.
use Prim.Native.Nat.{ℕ, zero, suc}
use native.Mathlib.Omega.{arith}
use mathlib.Core.Path.{◌≡◌, refl, sym, ◌∙◌, ap}
use mathlib.Core.Bool.{Bool, true, false}
use mathlib.Core.List.{List}
use mathlib.Core.Option.{none, some, none-ne-some, some-injective}
use lib.Dec.{leb}
use lib.ListN.{length, get_or, set, length-map, get_or-map}
use Rattle.theory.specs.Rules.{active_on, all, Held, rule_on}
use Rattle.theory.specs.Rules as theory
use Rattle.theory.proofs.Lists.{le-leb}
use Rattle.theory.proofs.Pages.{active-at, all-at, all-length, all_set, map-set}
use Rattle.table.specs.declared.Rule.{Rule}
use Rattle.table.specs.Rules.{active_in, active_of, book_of, page_in, page_of, past_rule, program_of, rule_of, slot_of}
use Rattle.table.specs.Rules.{state_of}

-- A slot by its state: what it holds, muted from state 2 on, and what it holds unmuted.
pub page-free : (r : Rule) → r.state ≡ 0 → page_of r ≡ none
page-free r e = ap (λ n. page_in n (rule_of r)) e

pub page-there :
    (r : Rule) → (r.state ≡ 0 → ⊥) → page_of r ≡ some (record { rule = rule_of r; muted = leb 2 r.state })
page-there r h = some_of r.state h
  where
    some_of : (n : ℕ) → (n ≡ 0 → ⊥) → page_in n (rule_of r) ≡ some (record { rule = rule_of r; muted = leb 2 n })
    some_of zero k = absurd (k refl)
    some_of (suc zero) k = refl
    some_of (suc (suc n)) k =
        ap (λ (m : Bool). some (record { rule = rule_of r; muted = m })) (sym (le-leb 2 (suc (suc n)) (omega arith)))

pub page-stated : (r : theory.Rule) (m : Bool) → page_in (state_of m) r ≡ some (record { rule = r; muted = m })
page-stated r true = refl
page-stated r false = refl

pub slot-free : (r : Rule) → r.state ≡ 0 → slot_of r ≡ none
slot-free r e = ap rule_on (page-free r e)

pub slot_held : (r : Rule) → (r.state ≡ 0 → ⊥) → slot_of r ≡ some (rule_of r)
slot_held r h = ap rule_on (page-there r h)

pub active-none : (r : Rule) → (r.state ≡ 1 → ⊥) → active_in r ≡ none
active-none r h = none_of r.state h
  where
    none_of : (n : ℕ) → (n ≡ 1 → ⊥) → active_on (page_in n (rule_of r)) ≡ none
    none_of zero k = refl
    none_of (suc zero) k = absurd (k refl)
    none_of (suc (suc n)) k = refl

pub active-some : (r : Rule) → r.state ≡ 1 → active_in r ≡ some (rule_of r)
active-some r e = ap (λ n. active_on (page_in n (rule_of r))) e

pub slot-state : (r : Rule) (q : theory.Rule) → slot_of r ≡ some q → r.state ≡ 0 → ⊥
slot-state r q t e = none-ne-some q (sym (slot-free r e) ∙ t)

pub slot_rule : (r : Rule) (q : theory.Rule) → slot_of r ≡ some q → rule_of r ≡ q
slot_rule r q t = some-injective (rule_of r) q (sym (slot_held r (slot-state r q t)) ∙ t)

-- A slot with an unmuted rule has state 1, and holds that rule.
pub active-state : (r : Rule) (q : theory.Rule) → active_in r ≡ some q → r.state ≡ 1
active-state r q t = one r.state t
  where
    one : (n : ℕ) → active_on (page_in n (rule_of r)) ≡ some q → n ≡ 1
    one zero e = absurd (none-ne-some q e)
    one (suc zero) e = refl
    one (suc (suc n)) e = absurd (none-ne-some q e)

pub active-rule : (r : Rule) (q : theory.Rule) → active_in r ≡ some q → rule_of r ≡ q
active-rule r q t = some-injective (rule_of r) q (sym (active-some r (active-state r q t)) ∙ t)

-- A place of the book, of the program, of its unmuted part, is the slot in that place.
pub book-at : (rules : List Rule) (s : ℕ) → get_or (book_of rules) s none ≡ page_of (get_or rules s past_rule)
book-at rules s = get_or-map page_of rules s past_rule

pub program-at : (rules : List Rule) (s : ℕ) → get_or (program_of rules) s none ≡ slot_of (get_or rules s past_rule)
program-at rules s = all-at (book_of rules) s ∙ ap rule_on (book-at rules s)

pub active-place : (rules : List Rule) (s : ℕ) → get_or (active_of rules) s none ≡ active_in (get_or rules s past_rule)
active-place rules s = active-at (book_of rules) s ∙ ap active_on (book-at rules s)

pub book-length : (rules : List Rule) → length (book_of rules) ≡ length rules
book-length rules = length-map rules page_of

pub program-length : (rules : List Rule) → length (program_of rules) ≡ length rules
program-length rules = all-length (book_of rules) ∙ book-length rules

pub active-length : (rules : List Rule) → length (active_of rules) ≡ length rules
active-length rules = length-map (book_of rules) active_on ∙ book-length rules

-- Putting a slot is putting its page, and its rule.
pub book-set : (rules : List Rule) (s : ℕ) (r : Rule) → book_of (set rules s r) ≡ set (book_of rules) s (page_of r)
book-set = map-set page_of

pub program-set :
    (rules : List Rule) (s : ℕ) (r : Rule) → program_of (set rules s r) ≡ set (program_of rules) s (slot_of r)
program-set rules s r = ap all (book-set rules s r) ∙ all_set (book_of rules) s (page_of r)

-- A rule held is that of a slot whose state is not 0; an unmuted one, of a slot whose state is 1.
pub held-rule :
    (rules : List Rule) (s : ℕ) (q : theory.Rule) → Held (program_of rules) s q → rule_of (get_or rules s past_rule) ≡ q
held-rule rules s q h = slot_rule (get_or rules s past_rule) q (sym (program-at rules s) ∙ h)

pub held-state :
    (rules : List Rule) (s : ℕ) (q : theory.Rule) → Held (program_of rules) s q → (get_or rules s past_rule).state ≡ 0 → ⊥
held-state rules s q h = slot-state (get_or rules s past_rule) q (sym (program-at rules s) ∙ h)

pub state-held :
    (rules : List Rule) (s : ℕ) → ((get_or rules s past_rule).state ≡ 0 → ⊥)
    → Held (program_of rules) s (rule_of (get_or rules s past_rule))
state-held rules s h = program-at rules s ∙ slot_held (get_or rules s past_rule) h

pub unmuted-rule :
    (rules : List Rule) (s : ℕ) (q : theory.Rule) → Held (active_of rules) s q → rule_of (get_or rules s past_rule) ≡ q
unmuted-rule rules s q h = active-rule (get_or rules s past_rule) q (sym (active-place rules s) ∙ h)
