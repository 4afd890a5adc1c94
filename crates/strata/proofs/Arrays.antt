-- The rounds over the table's own slots and numbers, upwards or downwards, and the answers that they end with. Assumes
-- nothing. The numbers of slots and atoms are parameters of each law.
use Prim.Native.Nat.{ℕ, ◌+◌, ◌≤◌, ◌<◌}
use native.Mathlib.Omega.{arith}
use mathlib.Core.Path.{◌≡◌, refl, sym, ◌∙◌, ap, subst}
use mathlib.Core.Bool.{Bool, true, false, ◌||◌}
use mathlib.Core.List.Memᴰ
use mathlib.Core.List.{List, [], ◌∷◌}
use mathlib.Core.Option.{none, some}
use lib.ListN.{length, get_or, replicate, get_or-map}
use Rattle.std.specs.Prelude.{Some, None}
use Rattle.theory.specs.Rules.{Program, Bounded, rule_on}
use Rattle.theory.specs.Rules as theory
use Rattle.theory.specs.Questions.{rules}
use Rattle.theory.proofs.Pages.{all-at}
use Rattle.table.specs.declared.Rule.{Rule}
use Rattle.table.specs.Sets.{number}
use Rattle.table.specs.Turns.{slot_at}
use Rattle.table.specs.Rules.{book_of, page_of, past_rule, program_of, rule_of, slot_of}
use Rattle.table.specs.Clean.{free_rule}
use Rattle.table.proofs.Members.{all_alike}
use Rattle.table.proofs.SlotsInTurn.{slot-at-each}
use Rattle.table.proofs.Programs.{program-at, program-length, held-rule, slot-free, slot_held, slot_rule}
use Rattle.strata.specs.Answer.{StrataOf}
use Rattle.strata.specs.Needed.{EntriesBelow, Guided, needed, Raised}
use Rattle.strata.proofs.Rounds.{ComesToAll, Rounds, Slots, rounds-start, slots-start, slot_next}
use Rattle.strata.proofs.Rounds.{slots-over, slots-rest, slots-passed, guided-next, rounds-guided}

-- No more rules are held than there are slots.
few-rules : (P : Program) → length (rules P) ≤ length P
unfolding rules
few-rules [] = omega arith
few-rules (none ∷ P) = omega (arith, few-rules P)
few-rules (some r ∷ P) = omega (arith, few-rules P)

-- A rule that was read from a slot of the table, or from any slot, is what the program has there.
pub read_at : (rows : List Rule) (s : ℕ) (r : Rule) → r ≡ get_or rows s past_rule → get_or (program_of rows) s none ≡ slot_of r
read_at rows s r read = program-at rows s ∙ ap slot_of (sym read)

pub read-in : (rows : List Rule) (s : ℕ) (r : Rule) → r ≡ get_or rows s free_rule → get_or (program_of rows) s none ≡ slot_of r
read-in rows s r read =
    all-at (book_of rows) s ∙ ap rule_on (get_or-map page_of rows s free_rule) ∙ ap slot_of (sym read)

-- What the program says of the atoms of such a rule, and what it needs.
module _ (rows : List Rule) (s : ℕ) (r : Rule) (read : get_or (program_of rows) s none ≡ slot_of r) where
  pub entries_below : (b : ℕ) → Bounded (program_of rows) b → EntriesBelow b (slot_of r)
  entries_below b B q h x m = B s q (read ∙ h) x (Memᴰ.tail m)

  -- A slot that needs a number above 0 holds a rule, whose head is an atom of the program too.
  pub head-below : (b n : ℕ) (ℓ : ℕ → ℕ) → Bounded (program_of rows) b → n ≡ needed ℓ (slot_of r) → 0 < n → r.head.0 < b
  head-below b n ℓ B e l =
      B s (rule_of r) (read ∙ slot_held r (λ z. omega (arith, e ∙ ap (needed ℓ) (slot-free r z)))) _
      (Memᴰ.head refl)

  -- It raises its head in between rounds.
  pub guided-slot :
      (b : ℕ) → Bounded (program_of rows) b → (xs ys zs : List ℕ) → length ys ≡ b → Guided (program_of rows) xs ys
      → (n : ℕ) (flag : Bool) → n ≡ needed (number ys) (slot_of r) → Raised ys r.head.0 n zs flag
      → Guided (program_of rows) xs zs
  guided-slot b B xs ys zs wide G n flag e R =
      guided-next (program_of rows) xs ys zs G s r.head.0 n flag (e ∙ ap (needed (number ys)) (sym read))
      (λ p h. (
      let y : p.head ≡ r.head.0 =
      sym (ap (λ (z : theory.Rule). z.head) (slot_rule r p (sym read ∙ h))) in
      (y, omega (arith, y, wide, B s p h p.head (Memᴰ.head refl)))))
      R

module _ (rows : List Rule) (S : ℕ) (long : length rows ≡ S) where
  few : length (rules (program_of rows)) ≤ S
  few = omega (arith, few-rules (program_of rows), program-length rows)

  -- The loop over the rounds and the loop over the slots begin.
  pub start : (b : ℕ) → Rounds (program_of rows) S 0 (number (replicate b 0))
  start b = rounds-start (program_of rows) S few (number (replicate b 0)) (λ a. all_alike b a 0)

  pub begin :
      (down : Bool) (k : ℕ) (xs ys : List ℕ) → Rounds (program_of rows) S k (number xs) → Guided (program_of rows) xs ys
      → Slots (program_of rows) (slot_at S down) S k 0 (number ys) false
  begin down k xs ys R G =
      slots-start (program_of rows) S few (slot_at S down) k (number ys) (rounds-guided (program_of rows) S k xs ys R G)

  -- A whole round has come to every slot.
  comes : (down : Bool) (i : ℕ) → S ≤ i → ComesToAll (program_of rows) (slot_at S down) i
  comes down i l s m =
      let w = slot-at-each S down s (omega (arith, program-length rows)) in
      (w.0, omega (arith, w.1), w.2)

  module _ (down : Bool) (k i : ℕ) (xs : List ℕ) (raised : Bool)
      (T : Slots (program_of rows) (slot_at S down) S k i (number xs) raised) where
    abbrev at : ℕ → ℕ
    at = slot_at S down

    -- What the slot come to needs.
    here : (s : ℕ) (r : Rule) → s ≡ at i → r ≡ get_or rows s past_rule → r ≡ get_or rows (at i) past_rule
    here s r q read = read ∙ ap (λ (z : ℕ). get_or rows z past_rule) q

    needs :
        (s n : ℕ) (r : Rule) → s ≡ at i → r ≡ get_or rows s past_rule → n ≡ needed (number xs) (slot_of r)
        → n ≡ needed (number xs) (get_or (program_of rows) (at i) none)
    needs s n r q read e =
        e ∙ ap (λ (z : Rule). needed (number xs) (slot_of z)) (here s r q read)
        ∙ ap (needed (number xs)) (sym (program-at rows (at i)))

    -- A slot needs a number above S.
    pub passed :
        (s n : ℕ) (r : Rule) → s ≡ at i → r ≡ get_or rows s past_rule → n ≡ needed (number xs) (slot_of r) → S < n
        → StrataOf (program_of rows) None
    passed s n r q read e l =
        slots-passed (program_of rows) S few at k (number xs) i raised T (omega (arith, needs s n r q read e))

    -- One slot.
    pub next :
        (b : ℕ) → length xs ≡ b → Bounded (program_of rows) b → (s n : ℕ) (r : Rule) (ys : List ℕ) (flag : Bool)
        → s ≡ at i → r ≡ get_or rows s past_rule → n ≡ needed (number xs) (slot_of r)
        → Raised xs r.head.0 n ys flag → Slots (program_of rows) at S k (i + 1) (number ys) (flag || raised)
    next b wide B s n r ys flag q read e R =
        slot_next (program_of rows) S few at k i xs ys raised flag _ n T (needs s n r q read e)
        (λ p h. (
        let y : p.head ≡ (get_or rows (at i) past_rule).head.0 =
        sym (ap (λ (z : theory.Rule). z.head) (held-rule rows (at i) p h)) in
        (y, omega (arith, y, B (at i) p h p.head (Memᴰ.head refl)))))
        (subst (λ (z : Rule). Raised xs z.head.0 n ys flag) (here s r q read) R)

    -- A round is over that raised none, or one.
    pub rest : raised ≡ false → S ≤ i → StrataOf (program_of rows) (Some xs)
    rest t l =
        slots-rest (program_of rows) S few at k (number xs) i (comes down i l)
        (subst (λ u. Slots (program_of rows) at S k i (number xs) u) t T)

    pub more : raised ≡ true → S ≤ i → Rounds (program_of rows) S (k + 1) (number xs)
    more t l =
        slots-over (program_of rows) S few at k (number xs) i (comes down i l)
        (subst (λ u. Slots (program_of rows) at S k i (number xs) u) t T)

  -- S + 1 rounds each raised a number.
  pub over : (k : ℕ) (xs : List ℕ) → Rounds (program_of rows) S k (number xs) → S < k
      → StrataOf (program_of rows) None
  over k xs R l = R.late l
