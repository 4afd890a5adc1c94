-- Justifications and consequences, found by passes over the slots. Assumes nothing.
use Prim.Native.Nat.{ℕ, ◌+◌, ◌≤◌, ◌<◌}
use native.Mathlib.Omega.{arith}
use mathlib.Core.Path.{◌≡◌, refl, sym, ◌∙◌, ap}
use mathlib.Core.Logic.{⊎_elim, ◌↔◌}
use mathlib.Core.Bool.{Bool, true, false, ◌||◌}
use mathlib.Core.List.Memᴰ
use mathlib.Core.List.{List, [], ◌∷◌, map}
use mathlib.Core.Option.{Option, none, some}
use lib.Dec.{eqb}
use lib.ListN.{length, get_or, set, replicate, length-replicate, length-set, get_or-map}
use Rattle.std.specs.List.{list_any}
use Rattle.theory.specs.Lists.{◌∈◌, any}
use Rattle.theory.specs.Rules.{Rule, Program, Held, entries, passes, Bounded}
use Rattle.theory.specs.Explanations.{Justification, Consequence}
use Rattle.theory.proofs.Lists.{eqb-eq, eqb_of, le-or-lt, clash, test, mem-in, in_mem, or_cases, or_l}
use Rattle.theory.proofs.Rules.{held-unique, passes_at}
use Rattle.theory.proofs.Questions.{held_below}
use Rattle.table.specs.declared.Atom.{Atom}
use Rattle.table.specs.declared.Rule as table
use Rattle.table.specs.Rules.{numbers, rule_of, slot_of, program_of, past_rule}
use Rattle.table.specs.Sets.{member, Flags}
use Rattle.table.proofs.Programs.{program-at, slot_rule, slot-free, slot_held}
use Rattle.table.proofs.Members.{all_alike, mark-is, mark-keeps}
use Rattle.relations.specs.Marks.{mark_if}

-- A slot that holds a rule which passes a test passes it.
passes_of : (f : Rule → Bool) (o : Option Rule) (r : Rule) → o ≡ some r → f r ≡ true → passes f o ≡ true
passes_of f o r e t = ap (passes f) e ∙ t

-- A test of a slot, by its state.
pub test-free : (f : Rule → Bool) (r : table.Rule) → r.state ≡ 0 → false ≡ passes f (slot_of r)
test-free f r e = sym (ap (passes f) (slot-free r e))

pub test-held :
    (f : Rule → Bool) (r : table.Rule) (b : Bool) → (r.state ≡ 0 → ⊥) → b ≡ f (rule_of r) → b ≡ passes f (slot_of r)
test-held f r b n e = e ∙ sym (ap (passes f) (slot_held r n))

-- Flags that say of each slot whether its rule has the head a.
pub justified :
    (rules : List table.Rule) (a : ℕ) (flags : List Bool)
    → flags ≡ map (λ r. passes (λ q. eqb q.head a) (slot_of r)) rules
    → Flags flags (Justification (program_of rules) a)
justified rules a flags e s = (
  λ t. (let w = passes_at f (get_or (program_of rules) s none) (sym (at s) ∙ t) in
      record { rule = w.0; held = w.1; heads = eqb-eq _ a w.2 }),
  λ J. at s ∙ passes_of f (get_or (program_of rules) s none) J.rule J.held (eqb_of _ a J.heads),
)
  where
    f : Rule → Bool
    f q = eqb q.head a

    at : (s : ℕ) → get_or flags s false ≡ passes f (get_or (program_of rules) s none)
    at s = ap (λ (xs : List Bool). get_or xs s false) e
        ∙ get_or-map (λ r. passes f (slot_of r)) rules s past_rule
        ∙ ap (passes f) (sym (program-at rules s))

-- Does an atom stand among some entries?
pub any-entries : (a : ℕ) (xs : List Atom) → list_any (λ x. eqb a x.0) xs ≡ any (eqb a) (numbers xs)
unfolding any
any-entries a [] = refl
any-entries a (x ∷ xs) = ap (λ b. eqb a x.0 || b) (any-entries a xs)

-- The consequences that the slots below i give.
pub record Below (P : Program) (a i h : ℕ) : Type 0 where
  pub is : Consequence P a h
  pub low : is.slot < i

-- The flags of n atoms say which those are.
pub record Following (P : Program) (a n i : ℕ) (flags : List Bool) : Type 0 where
  pub long : length flags ≡ n
  pub exactly : (h : ℕ) → (member flags h ≡ true) ↔ Below P a i h

pub following-start : (P : Program) (a n : ℕ) → Following P a n 0 (replicate n false)
following-start P a n = record {
  long = length-replicate n false;
  exactly = λ h. (λ t. absurd (clash t (all_alike n h false)), λ w. absurd (omega (arith, w.low)));
}

below_more : (P : Program) (a i h : ℕ) → Below P a i h → Below P a (i + 1) h
below_more P a i h w = record { is = w.is; low = omega (arith, w.low) }

module _ (P : Program) (a n i : ℕ) (flags : List Bool) (B : Bounded P n) (W : Following P a n i flags) where
  uses : Rule → Bool
  uses q = any (eqb a) (entries q)

  -- slot i holds no rule with this entry
  following-same : passes uses (get_or P i none) ≡ false → Following P a n (i + 1) flags
  unfolding uses
  following-same t = record {
    long = W.long;
    exactly = λ h. (
      λ u. below_more P a i h ((W.exactly h).0 u),
      λ w. ⊎_elim
          (λ (l : i ≤ w.is.slot). (
          let e : w.is.slot ≡ i = omega (arith, w.low) in
          let held : get_or P i none ≡ some w.is.rule = rw e at w.is.held in
          absurd (clash (passes_of uses (get_or P i none) w.is.rule held (in_mem a _ w.is.there)) t)))
          (λ (l : w.is.slot < i). (W.exactly h).1 (record { is = w.is; low = l }))
          (le-or-lt i w.is.slot),
    );
  }

  -- slot i holds a rule with this entry: its head comes in
  following-mark :
      (q : Rule) → Held P i q → uses q ≡ true → Following P a n (i + 1) (set flags q.head true)
  unfolding uses
  following-mark q held t =
      let there : a ∈ entries q = mem-in a (entries q) t in
      let fits : q.head < length flags = omega (arith, W.long, B i q held q.head (Memᴰ.head refl)) in
      record {
        long = length-set flags q.head true ∙ W.long;
        exactly = λ h. (
          λ u. ⊎_elim
              (λ (e : eqb h q.head ≡ true). record {
                is = record {
                  slot = i;
                  rule = q;
                  held = held;
                  there = there;
                  heads = sym (eqb-eq h q.head e);
                };
                low = omega arith;
              })
              (λ (e : member flags h ≡ true). below_more P a i h ((W.exactly h).0 e))
              (or_cases (eqb h q.head) (member flags h) (sym (mark-is flags q.head fits h) ∙ u)),
          λ w. ⊎_elim
              (λ (l : i ≤ w.is.slot). (
              let e : w.is.slot ≡ i = omega (arith, w.low) in
              let same : w.is.rule ≡ q = held-unique P i w.is.rule q (rw e at w.is.held) held in
              let head : h ≡ q.head = sym w.is.heads ∙ ap (λ (r : Rule). r.head) same in
              mark-is flags q.head fits h ∙ or_l _ _ (eqb_of h q.head head)))
              (λ (l : w.is.slot < i).
              mark-keeps flags q.head fits h ((W.exactly h).1 (record { is = w.is; low = l })))
              (le-or-lt i w.is.slot),
        );
      }

-- The next slot.
pub following-next :
    (rules : List table.Rule) (a n i : ℕ) (flags after : List Bool) → Bounded (program_of rules) n
    → Following (program_of rules) a n i flags
    → (r : table.Rule) → r ≡ get_or rules i past_rule
    → after ≡ mark_if (passes (λ q. any (eqb a) (entries q)) (slot_of r)) flags r.head.0
    → Following (program_of rules) a n (i + 1) after
following-next rules a n i flags after B W r read e = ⊎_elim
    (λ (t : passes f (slot_of r) ≡ true). (
    let w = passes_at f (slot_of r) t in
    let same : rule_of r ≡ w.0 = slot_rule r w.0 w.1 in
    let head : r.head.0 ≡ w.0.head = ap (λ (q : Rule). q.head) same in
    let out : after ≡ set flags w.0.head true =
    e ∙ ap (λ b. mark_if b flags r.head.0) t ∙ ap (λ (k : ℕ). set flags k true) head in
    rw out (following-mark P a n i flags B W w.0 (at ∙ w.1) (unfold uses in w.2))))
    (λ (t : passes f (slot_of r) ≡ false). (
    let out : after ≡ flags = e ∙ ap (λ b. mark_if b flags r.head.0) t in
    rw out (following-same P a n i flags B W (unfold uses in (ap (passes f) at ∙ t)))))
    (test (passes f (slot_of r)))
  where
    P : Program
    P = program_of rules

    f : Rule → Bool
    f q = any (eqb a) (entries q)

    at : get_or P i none ≡ slot_of r
    at = program-at rules i ∙ ap slot_of (sym read)

pub following-over :
    (P : Program) (a n i : ℕ) (flags : List Bool) → length P ≤ i → Following P a n i flags
    → Flags flags (Consequence P a)
following-over P a n i flags l W h = (
  λ t. ((W.exactly h).0 t).is,
  λ C. (W.exactly h).1 (record { is = C; low = omega (arith, held_below P C.slot C.rule C.held) }),
)
