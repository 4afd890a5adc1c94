-- A slot visited, and a round over the slots, against the theory's functions. Assumes nothing.
use Rattle.std.proofs.Common.{◌≡◌, ℕ, zero, suc, ◌+◌, ◌<◌, ◌≤◌, Bool, true, false, not, ◌&&◌, ◌||◌, eqb, List, length}
use Rattle.std.proofs.Common.{get_or, drop, set, sym, refl, ap, ◌∙◌, subst, ap₂, ⊎_elim, true≢false, add-one, arith}
use Rattle.std.proofs.Common.{length-set, drop_of_length-le, drop-cons, get_or-set_other, get_or-set_same}
use native.Mathlib.Decide.{ℕ_discrete}
use mathlib.Core.Path.{fun_ext}
use mathlib.Core.Bool.{and-false, and_assoc, or_assoc, or-false, or-true}
use mathlib.Core.Option.{Option, none, some}
use lib.ListN.{get_or-eq_default}
use Rattle.theory.specs.Rules.{active_on, passes}
use Rattle.theory.specs.Rules as theory
use Rattle.theory.specs.Models.{AtomSet, valid}
use Rattle.theory.proofs.Lists.{clash, eqb_of, eqb-not, le-or-lt}
use Rattle.theory.specs.Rounds.{fires, head_added, visit, sweep, adds}
use Rattle.table.specs.declared.Rule.{Rule}
use Rattle.table.specs.Rules.{active_in, active_of, page_in, past_rule, rule_of}
use Rattle.table.specs.Sets.{member}
use Rattle.table.proofs.Members.{mark-is}
use Rattle.table.proofs.Programs.{active-none, active-some, active-state}
use Rattle.model.specs.Rounds.{sought, waits}

-- An atom of another stratum is not sought; of one of the stratum k the set decides.
module _ (stratum k : ℕ) (t : Bool) where
  pub sought-other : (stratum ≡ k → ⊥) → false ≡ (eqb stratum k && t)
  sought-other ne = sym (ap (λ b. b && t) (eqb-not stratum k ne))

  pub sought-here : stratum ≡ k → t ≡ (eqb stratum k && t)
  sought-here e = sym (ap (λ b. b && t) (eqb_of stratum k e))

-- A slot without an unmuted rule does not wait; of one with such a rule the head decides.
module _ (ℓ : ℕ → ℕ) (k : ℕ) (M : AtomSet) where
  pub waits-idle : (n a : ℕ) → (n ≡ 1 → ⊥) → false ≡ waits ℓ k M n a
  waits-idle zero a f = refl
  waits-idle (suc zero) a f = absurd (f refl)
  waits-idle (suc (suc n)) a f = refl

  pub waits-unmuted : (n a : ℕ) → n ≡ 1 → sought ℓ k M a ≡ waits ℓ k M n a
  waits-unmuted n a e = ap (λ m. waits ℓ k M m a) (sym e)

  pub waits-sought : (n a : ℕ) → waits ℓ k M n a ≡ true → sought ℓ k M a ≡ true
  waits-sought zero a e = absurd (true≢false (sym e))
  waits-sought (suc zero) a e = e
  waits-sought (suc (suc n)) a e = absurd (true≢false (sym e))

-- A slot with an unmuted rule holds a valid one if that is valid; any other slot does not.
pub rule-decides : (M : AtomSet) (rule : Rule) → rule.state ≡ 1
    → valid M (rule_of rule) ≡ passes (valid M) (active_in rule)
rule-decides M rule e = sym (ap (passes (valid M)) (active-some rule e))

pub none-valid : (M : AtomSet) (rule : Rule) → (rule.state ≡ 1 → ⊥) → false ≡ passes (valid M) (active_in rule)
none-valid M rule f = sym (ap (passes (valid M)) (active-none rule f))

-- A slot fires if its head is sought and it holds a valid rule.
fires-is : (ℓ : ℕ → ℕ) (k : ℕ) (M : AtomSet) (n : ℕ) (r : theory.Rule)
    → fires ℓ k M (active_on (page_in n r)) ≡ (sought ℓ k M r.head && passes (valid M) (active_on (page_in n r)))
unfolding fires
fires-is ℓ k M zero r = sym (and-false (sought ℓ k M r.head))
fires-is ℓ k M (suc zero) r = sym (and_assoc (eqb (ℓ r.head) k) (not (M r.head)) (valid M r))
fires-is ℓ k M (suc (suc n)) r = sym (and-false (sought ℓ k M r.head))

-- The head of the slot's rule, if it holds one, is below n.
abbrev pub HeadBelow : Option theory.Rule → ℕ → Type 0
HeadBelow o n = (r : theory.Rule) → o ≡ some r → r.head < n

-- What a round has still to do from slot i on, with the atoms found by then and whether it added any, gives the
-- whole round that began with the atoms before.
pub record Left (ℓ : ℕ → ℕ) (k : ℕ) (rules : List Rule) (before : List Bool) (i : ℕ) (found : List Bool) (added : Bool)
    : Type 0 where
  pub place : i ≤ length rules
  pub whole : sweep ℓ k (member found) (active_of (drop i rules)) ≡ sweep ℓ k (member before) (active_of rules)
  pub more : (added || adds ℓ k (member found) (active_of (drop i rules))) ≡ adds ℓ k (member before) (active_of rules)
  pub size : length found ≡ length before

-- Does slot s wait?
abbrev pub waits_at : (ℕ → ℕ) → ℕ → List Rule → List Bool → ℕ → Bool
waits_at ℓ k rules found s =
    waits ℓ k (member found) (get_or rules s past_rule).state (get_or rules s past_rule).head.0

-- No slot from the place e on waits.
abbrev pub NoneFrom : (ℕ → ℕ) → ℕ → List Rule → List Bool → ℕ → Type 0
NoneFrom ℓ k rules found e =
    (s : ℕ) → e ≤ s → s < length rules → waits_at ℓ k rules found s ≡ false

-- A round made.
pub record Round (ℓ : ℕ → ℕ) (k : ℕ) (rules : List Rule) (before found : List Bool) (added : Bool) : Type 0 where
  pub whole : member found ≡ sweep ℓ k (member before) (active_of rules)
  pub more : added ≡ adds ℓ k (member before) (active_of rules)
  pub size : length found ≡ length before

module _ (ℓ : ℕ → ℕ) (k : ℕ) (rules : List Rule) where
  sweep-next : (M : AtomSet) (i : ℕ) (r : Rule) → r ≡ get_or rules i past_rule → i < length rules
      → sweep ℓ k M (active_of (drop i rules)) ≡ sweep ℓ k (visit ℓ k M (active_in r)) (active_of (drop (i + 1) rules))
  unfolding sweep
  sweep-next M i r e l = rw (e, add-one, drop-cons rules i past_rule)

  adds-next : (M : AtomSet) (i : ℕ) (r : Rule) → r ≡ get_or rules i past_rule → i < length rules
      → adds ℓ k M (active_of (drop i rules))
      ≡ (fires ℓ k M (active_in r) || adds ℓ k (visit ℓ k M (active_in r)) (active_of (drop (i + 1) rules)))
  unfolding adds
  adds-next M i r e l = rw (e, add-one, drop-cons rules i past_rule)

  module _ (before : List Bool) where
    pub left-start : Left ℓ k rules before 0 before false
    left-start = record { place = omega arith; whole = refl; more = refl; size = refl }

    -- Slot i is visited, and this rule was read from it.
    module _ (i : ℕ) (found : List Bool) (u : Bool) (l : i < length rules) (L : Left ℓ k rules before i found u)
        (here : Rule) (read : here ≡ get_or rules i past_rule) where
      abbrev new : Bool
      new = sought ℓ k (member found) here.head.0

      abbrev good : Bool
      good = passes (valid (member found)) (active_in here)

      step : (after : List Bool) (t : Bool) → (new && good) ≡ t
          → member after ≡ head_added t (active_in here) (member found) → length after ≡ length found
          → Left ℓ k rules before (i + 1) after (u || t)
      unfolding visit
      step after t e is same =
          let told : t ≡ fires ℓ k (member found) (active_in here) =
          sym (fires-is ℓ k (member found) here.state (rule_of here) ∙ e) in
          let go : member after ≡ visit ℓ k (member found) (active_in here) =
          is ∙ ap (λ b. head_added b (active_in here) (member found)) told in
          record {
            place = omega arith;
            whole = ap (λ (M : AtomSet). sweep ℓ k M (active_of (drop (i + 1) rules))) go
                ∙ (sym (sweep-next (member found) i here read l) ∙ L.whole);
            more = or_assoc u t _ ∙ (ap (λ b. u || b)
                (ap₂ (λ (b : Bool) (M : AtomSet). b || adds ℓ k M (active_of (drop (i + 1) rules))) told go
                ∙ sym (adds-next (member found) i here read l)) ∙ L.more);
            size = same ∙ L.size;
          }

      stay : (new && good) ≡ false → Left ℓ k rules before (i + 1) found u
      stay e = rw (sym (or-false u)) (step found false e refl refl)

      -- A slot adds none if its head is not sought,
      pub left_over : new ≡ false → Left ℓ k rules before (i + 1) found u
      left_over e = stay (ap (λ b. b && good) e)

      -- or if it holds no valid rule.
      pub left-stop : good ≡ false → Left ℓ k rules before (i + 1) found u
      left-stop e = stay (ap (λ b. new && b) e ∙ and-false new)

      -- So a slot that does not wait adds none.
      pub left-idle :
          waits ℓ k (member found) here.state here.head.0 ≡ false → Left ℓ k rules before (i + 1) found u
      left-idle e = elim (ℕ_discrete here.state 1) [
        | yes q ↦ left_over (waits-unmuted ℓ k (member found) here.state here.head.0 q ∙ e)
        | no q ↦ left-stop (sym (none-valid (member found) here q))
      ]

      -- Else its head comes in.
      pub left-add : HeadBelow (active_in here) (length found) → new ≡ true → good ≡ true
          → (after : List Bool) → after ≡ set found here.head.0 true → Left ℓ k rules before (i + 1) after true
      left-add low e v after is =
          let w = passing (active_in here) v in
          let held : active_in here ≡ some (rule_of here) =
          active-some here (active-state here w.0 w.1) in
          rw (sym (or-true u)) (step after true (ap₂ (λ b t. b && t) e v)
          (ap member is ∙ (fun_ext (mark-is found here.head.0 (low (rule_of here) held))
          ∙ sym (ap (λ (o : Option theory.Rule). head_added true o (member found)) held)))
          (ap length is ∙ length-set found here.head.0 true))
        where
          passing : (o : Option theory.Rule) → passes (valid (member found)) o ≡ true → (q : theory.Rule) × (o ≡ some q)
          passing none t = absurd (true≢false (sym t))
          passing (some q) t = (q, refl)

    pub left_end : (i : ℕ) (found : List Bool) (u : Bool) → length rules ≤ i → Left ℓ k rules before i found u
        → Round ℓ k rules before found u
    unfolding sweep adds
    left_end i found u l L =
        let e = drop_of_length-le rules l in
        record {
          whole = ap (λ (rs : List Rule). sweep ℓ k (member found) (active_of rs)) (sym e) ∙ L.whole;
          more = sym (or-false u)
              ∙ (ap (λ (rs : List Rule). u || adds ℓ k (member found) (active_of rs)) (sym e) ∙ L.more);
          size = L.size;
        }

    -- A round that leaves out the last slots, none of which waits, is the whole round.
    rest_over : (n i : ℕ) (found : List Bool) (u : Bool) → length rules ≤ i + n → NoneFrom ℓ k rules found i
        → Left ℓ k rules before i found u → Round ℓ k rules before found u
    rest_over zero i found u b N L = left_end i found u (omega arith) L
    rest_over (suc n) i found u b N L = ⊎_elim
        (λ (l : length rules ≤ i). left_end i found u l L)
        (λ (l : i < length rules). rest_over n (i + 1) found u (omega arith) (λ s m. N s (omega arith))
        (left-idle i found u l L (get_or rules i past_rule) refl (N i (omega arith) l)))
        (le-or-lt (length rules) i)

    pub left-rest : (i : ℕ) (found : List Bool) (u : Bool) → NoneFrom ℓ k rules found i
        → Left ℓ k rules before i found u → Round ℓ k rules before found u
    left-rest i found u N L = rest_over (length rules) i found u (omega arith) N L

-- With the slots below i visited: none from `last` on, and none from `end` on, waits.
pub record Seen (ℓ : ℕ → ℕ) (k : ℕ) (rules : List Rule) (found : List Bool) (end last i : ℕ) : Type 0 where
  pub low : last ≤ i
  pub inner : (s : ℕ) → last ≤ s → s < i → waits_at ℓ k rules found s ≡ false
  pub outer : NoneFrom ℓ k rules found end

module _ (ℓ : ℕ → ℕ) (k : ℕ) (rules : List Rule) where
  pub seen_start : (found : List Bool) (end : ℕ) → NoneFrom ℓ k rules found end → Seen ℓ k rules found end 0 0
  seen_start found end N = record { low = omega arith; inner = λ s l m. absurd (omega arith); outer = N }

  module _ (found : List Bool) (end last i : ℕ) (S : Seen ℓ k rules found end last i) where
    -- slot i does not wait,
    pub seen-over :
        (r : Rule) → r ≡ get_or rules i past_rule → waits ℓ k (member found) r.state r.head.0 ≡ false
        → Seen ℓ k rules found end last (i + 1)
    seen-over r read e = record {
      low = omega (arith, S.low);
      inner = λ s l m. ⊎_elim
          (λ (b : i ≤ s). (
          let q : i ≡ s = omega arith in
          subst (λ (z : Rule). waits ℓ k (member found) z.state z.head.0 ≡ false)
          (read ∙ ap (λ (z : ℕ). get_or rules z past_rule) q) e))
          (λ (b : s < i). S.inner s l b)
          (le-or-lt i s);
      outer = S.outer;
    }

    -- or it is the last so far that does.
    pub seen_here : Seen ℓ k rules found end (i + 1) (i + 1)
    seen_here = record { low = omega arith; inner = λ s l m. absurd (omega arith); outer = S.outer }

    pub seen_end : end ≤ i → NoneFrom ℓ k rules found last
    seen_end b s l r = ⊎_elim (λ (m : i ≤ s). S.outer s (omega arith) r) (λ (m : s < i). S.inner s l m) (le-or-lt i s)

  -- A head that comes in makes no slot wait.
  pub seen-mark : (found : List Bool) (end last i a : ℕ) (after : List Bool) → after ≡ set found a true
      → Seen ℓ k rules found end last i → Seen ℓ k rules after end last i
  seen-mark found end last i a after is S = rw is (record {
    low = S.low;
    inner = λ s l m. gone (get_or rules s past_rule).state (get_or rules s past_rule).head.0 (S.inner s l m);
    outer = λ s l r. gone (get_or rules s past_rule).state (get_or rules s past_rule).head.0 (S.outer s l r);
  })
    where
      keeps : (x : ℕ) → member found x ≡ true → member (set found a true) x ≡ true
      keeps x t = elim (ℕ_discrete x a) [
        | yes q ↦ ⊎_elim
            (λ (l : length found ≤ a). absurd (clash t
            (ap (member found) q ∙ get_or-eq_default found false l)))
            (λ (l : a < length found). ap (member (set found a true)) q ∙ get_or-set_same found a true false l)
            (le-or-lt (length found) a)
        | no q ↦ get_or-set_other found a x true false q ∙ t
      ]

      go : (b m n : Bool) → (b && not m) ≡ false → (m ≡ true → n ≡ true) → (b && not n) ≡ false
      go false m n e f = refl
      go true true n e f = ap not (f refl)
      go true false n e f = absurd (true≢false e)

      gone : (n x : ℕ) → waits ℓ k (member found) n x ≡ false → waits ℓ k (member (set found a true)) n x ≡ false
      gone zero x e = refl
      gone (suc zero) x e = go (eqb (ℓ x) k) (member found x) (member (set found a true) x) e (keeps x)
      gone (suc (suc n)) x e = refl
