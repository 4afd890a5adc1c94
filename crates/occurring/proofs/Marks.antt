-- Atoms marked one by one: a mark, the entries of a rule, the slots of a program. Assumes nothing. The number of atoms
-- is a parameter.
use Prim.Native.Nat.{ℕ, ◌+◌, ◌≤◌, ◌<◌}
use native.Mathlib.Omega.{arith}
use native.Mathlib.Numerals.{add-one}
use native.Mathlib.Decide.{ℕ_discrete}
use mathlib.Core.Path.{◌≡◌, refl, sym, ◌∙◌, ap}
use mathlib.Core.Bool.{Bool, true, false, ◌||◌, or_assoc, or-false}
use mathlib.Core.Logic.{inl, inr}
use mathlib.Core.List.{List, [], ◌∷◌, ◌++◌, map-append}
use mathlib.Core.Option.{Option, none, some}
use lib.Dec.{eqb}
use lib.ListN.{length, get_or, set, drop, take, length-set, replicate, length-replicate, get_or-eq_default}
use lib.ListN.{drop_of_length-le}
use lib.Seq.{get_or-set_same, get_or-set_other, drop-cons, take-suc}
use Rattle.theory.specs.Lists.{any}
use Rattle.theory.specs.Rules.{Rule, Program, Bounded, entries, passes}
use Rattle.theory.proofs.Lists.{clash, eqb_of, eqb-not, le-or-lt, mem}
use Rattle.theory.specs.Slots.{occurs?}
use Rattle.theory.proofs.Rules.{occurs-at, occurs-of}
use Rattle.table.specs.declared.Atom.{Atom}
use Rattle.table.specs.declared.Rule as table
use Rattle.table.specs.Rules.{numbers, rule_of, slot_of, no_atom}
use Rattle.table.specs.Sets.{member}
use Rattle.table.proofs.Members.{all_alike}
use Rattle.table.proofs.Programs.{slot-free, slot_held}
use Rattle.occurring.specs.Occurrence.{OccurringIn}
use Rattle.occurring.specs.Marks.{atoms, Marked}

pub marked-none : (f : List Bool) → Marked [] f f
unfolding any
marked-none f = record { long = refl; is = λ a l. sym (or-false (member f a)) }

-- One atom is marked: past the end of the array nothing is.
pub marked-one : (x : ℕ) (f : List Bool) → Marked (x ∷ []) f (set f x true)
unfolding any
marked-one x f = record {
  long = length-set f x true;
  is = λ a l. elim (ℕ_discrete a x) [
    | yes q ↦ ap (member (set f x true)) q
        ∙ (get_or-set_same f x true false (omega arith)
        ∙ sym (ap (λ z. member f a || (z || false)) (eqb_of a x q) ∙ or-true (member f a)))
    | no q ↦ get_or-set_other f x a true false q
        ∙ sym (ap (λ z. member f a || (z || false)) (eqb-not a x q) ∙ or-false (member f a))
  ];
}
  where
    or-true : (b : Bool) → (b || true) ≡ true
    or-true true = refl
    or-true false = refl

any_append : (f : ℕ → Bool) (xs ys : List ℕ) → any f (xs ++ ys) ≡ (any f xs || any f ys)
unfolding any
any_append f [] ys = refl
any_append f (x ∷ xs) ys = ap (λ z. f x || z) (any_append f xs ys) ∙ sym (or_assoc (f x) (any f xs) (any f ys))

-- One list after another.
pub marked-both : (xs ys : List ℕ) (f g h : List Bool) → Marked xs f g → Marked ys g h → Marked (xs ++ ys) f h
marked-both xs ys f g h X Y = record {
  long = Y.long ∙ X.long;
  is = λ a l. Y.is a (omega (arith, X.long))
      ∙ (ap (λ z. z || any (eqb a) ys) (X.is a l)
      ∙ (or_assoc (member f a) (any (eqb a) xs) (any (eqb a) ys)
      ∙ sym (ap (λ z. member f a || z) (any_append (eqb a) xs ys))));
}

-- The entries of a rule, one by one.
pub front-next :
    (xs : List Atom) (j : ℕ) (f g : List Bool) → j < length xs → Marked (numbers (take j xs)) f g
    → Marked (numbers (take (j + 1) xs)) f (set g (get_or xs j no_atom).0 true)
front-next xs j f g l W =
    rw (add-one, take-suc xs j no_atom, map-append)
    (marked-both (numbers (take j xs)) ((get_or xs j no_atom).0 ∷ []) f g _ W (marked-one (get_or xs j no_atom).0 g))

-- The atoms of a slot: of a free one none; of a held one the head, then the entries.
pub marked-free : (r : table.Rule) (f : List Bool) → r.state ≡ 0 → Marked (atoms (slot_of r)) f f
marked-free r f e = rw (slot-free r e) (marked-none f)

pub marked-held :
    (r : table.Rule) (f g h : List Bool) → (r.state ≡ 0 → ⊥) → g ≡ set f r.head.0 true
    → Marked (entries (rule_of r)) g h → Marked (atoms (slot_of r)) f h
marked-held r f g h n e W =
    rw (slot_held r n)
    (marked-both (r.head.0 ∷ []) (entries (rule_of r)) f g h (rw e (marked-one r.head.0 f)) W)

-- What the slots below i have marked, with what the slots from i on have still to mark, is every atom that occurs.
pub record Marking (P : Program) (n i : ℕ) (f : List Bool) : Type 0 where
  pub long : length f ≡ n
  pub left : (a : ℕ) → a < n → (member f a || occurs? (drop i P) a) ≡ occurs? P a

pub marking-start : (P : Program) (n : ℕ) → Marking P n 0 (replicate n false)
marking-start P n = record {
  long = length-replicate n false;
  left = λ a l. ap (λ z. z || occurs? P a) (all_alike n a false);
}

atoms-test : (o : Option Rule) (a : ℕ) → any (eqb a) (atoms o) ≡ passes (λ r. mem a (r.head ∷ entries r)) o
unfolding any
atoms-test none a = refl
atoms-test (some r) a = refl

pub marking-next :
    (P : Program) (n i : ℕ) (o : Option Rule) (f g : List Bool) → i < length P → get_or P i none ≡ o → Marking P n i f
    → Marked (atoms o) f g → Marking P n (i + 1) g
unfolding occurs? any
marking-next P n i o f g l here W X = record {
  long = X.long ∙ W.long;
  left = λ a k. (
      let rest = occurs? (drop (i + 1) P) a in
      let step : occurs? (drop i P) a ≡ (any (eqb a) (atoms o) || rest) =
      rw (add-one, drop-cons P i none, here, atoms-test) in
      ap (λ z. z || rest) (X.is a (omega (arith, W.long)))
      ∙ (or_assoc (member f a) (any (eqb a) (atoms o)) rest ∙ (ap (λ z. member f a || z) (sym step) ∙ W.left a k)));
}

pub marking-end :
    (P : Program) (n i : ℕ) (f : List Bool) → Bounded P n → length P ≤ i → Marking P n i f → OccurringIn P (member f)
unfolding occurs? any
marking-end P n i f B past W a = (
  λ t. elim (le-or-lt n a) [
    | inl l ↦ absurd (clash t (get_or-eq_default f false (omega (arith, W.long))))
    | inr l ↦ occurs-at P a (sym (all l) ∙ t)
  ],
  λ O. all (B O.slot O.rule O.held a O.there) ∙ occurs-of P a O,
)
  where
    nothing : occurs? [] a ≡ false
    nothing = refl

    all : a < n → member f a ≡ occurs? P a
    all l = sym (ap (λ z. member f a || z) (ap (λ Q. occurs? Q a) (drop_of_length-le P past) ∙ nothing)
        ∙ or-false (member f a))
        ∙ W.left a l
