-- The questions that the calls ask, by number (specification 3.2). Assumes nothing.
use Rattle.std.specs.Prelude.{ℕ, zero, suc, ◌+◌, Bool, true, false, not, ◌&&◌, ◌||◌, List, [], ◌∷◌, ◌++◌, eqb, leb, ltb, length, get_or, set}
use Rattle.std.proofs.Math.Option.{Option, none, some}
use Rattle.theory.specs.Lists.{every, any, distinct}
use Rattle.theory.specs.Limits.{Limits}
use Rattle.theory.specs.Rules.{Rule, Program, entries, any_rule, same, kept}
use Rattle.theory.specs.Labels.{Label, absent, out, in_at}

-- A question with its number and answer. The first that is answered no is the refusal.
pub record Question : Type 0 where
  pub number : ℕ
  pub yes? : Bool

abbrev pub asks : ℕ → Bool → Question
asks k t = record { number = k; yes? = t }

unfoldable pub first_no : List Question → Option ℕ
first_no [] = none
first_no (q ∷ qs) = elim q.yes? [ true ↦ first_no qs | false ↦ some q.number ]

abbrev pub is_some : {A : Type 0} → Option A → Bool
is_some none = false
is_some (some a) = true

abbrev pub is_in_label : Label → Bool
is_in_label absent = false
is_in_label out = false
is_in_label (in_at d s) = true

-- The lowest free slot, if there is one, and the program with a rule put there.
unfoldable pub lowest_free : Program → Option ℕ
lowest_free [] = none
lowest_free (none ∷ P) = some zero
lowest_free (some r ∷ P) = elim (lowest_free P) [ none ↦ none | some s ↦ some (suc s) ]

abbrev pub put_in : {A : Type 0} → List (Option A) → Option ℕ → A → List (Option A)
put_in P none r = P
put_in P (some s) r = set P s (some r)

-- The program with a rule added: kept in the lowest free slot.
abbrev pub with_added : Program → Rule → Program
with_added P r = put_in P (lowest_free P) (kept r)

-- The program with a slot's rule replaced: the new one kept in the same slot.
abbrev pub with_replaced : Program → ℕ → Rule → Program
with_replaced P s r = set P s (some (kept r))

-- The rules held, in the order of their slots.
unfoldable pub rules : Program → List Rule
rules [] = []
rules (none ∷ P) = rules P
rules (some r ∷ P) = r ∷ rules P

-- Walking dependencies: from a to c by at most k steps.
unfoldable pub reaches : List Rule → ℕ → ℕ → ℕ → Bool
reaches rs zero a c = eqb a c
reaches rs (suc k) a c = eqb a c || any (λ r. eqb r.head a && any (λ x. reaches rs k x c) (entries r)) rs

-- No loop through a negation: from no rule's negative entry does a walk lead back to its head. A walk need not have
-- more steps than there are rules. (NegativeCycle is the notion; the law `stratified-iff` says that this decides it.)
unfoldable pub stratified : Program → Bool
stratified P = not (any (λ r. any (λ x. reaches (rules P) (length (rules P)) x r.head) r.negatives) (rules P))

module _ (limits : Limits) where
  -- 1: Is the head below 256?  2: Do both lists together have at most 8 entries?  3: Is every entry below 256?
  -- 4: Is each list without a repeated atom?
  abbrev pub rule_questions : Rule → List Question
  rule_questions r =
      asks 1 (ltb r.head limits.atoms)
      ∷ asks 2 (leb (length r.positives + length r.negatives) limits.entries)
      ∷ asks 3 (every (λ x. ltb x limits.atoms) (entries r))
      ∷ asks 4 (distinct r.positives && distinct r.negatives)
      ∷ []

  -- Add: 1 to 4, then 5: Is the table without the same rule?  6: Is a slot free?
  -- 7: Would the table with this rule have no loop through a negation?
  abbrev pub add_questions : Program → Rule → List Question
  add_questions P r =
      rule_questions r
      ++ (asks 5 (not (any_rule (same r) P))
      ∷ asks 6 (is_some (lowest_free P))
      ∷ asks 7 (stratified (with_added P r))
      ∷ [])

  -- Remove, Mute, and Spoiler of a slot. 8: Is the slot number below 256?  9: Does the slot hold a rule?
  abbrev pub slot_questions : Program → ℕ → List Question
  slot_questions P s = asks 8 (ltb s limits.slots) ∷ asks 9 (is_some (get_or P s none)) ∷ []

  -- Replace: 8 and 9, then 1 to 4, then 5 of the table without the slot's rule, and 7 of the table with this rule in
  -- that slot. (6 is not asked: the table without the slot's rule has a free slot, by the law `never-full`.)
  abbrev pub replace_questions : Program → ℕ → Rule → List Question
  replace_questions P s r =
      slot_questions P s
      ++ (rule_questions r
      ++ (asks 5 (not (any_rule (same r) (set P s none)))
      ∷ asks 7 (stratified (with_replaced P s r))
      ∷ []))

  -- Label, justifications, consequences, repercussions. 10: Is the atom number below 256?
  abbrev pub atom_questions : ℕ → List Question
  atom_questions a = asks 10 (ltb a limits.atoms) ∷ []

  -- Reason: 10, then 12: Is the atom in?  (11, whether the lent buffer is long enough, is asked of what is to be
  -- written, after these: see the calls' contracts.)
  abbrev pub reason_questions : ℕ → Label → List Question
  reason_questions a label = asks 10 (ltb a limits.atoms) ∷ asks 12 (is_in_label label) ∷ []
