-- Laws of comparing two rules entry by entry. Assumes nothing. The number of entries is a parameter.
use Prim.Native.Nat.{ℕ, ◌+◌, ◌-◌, ◌≤◌, ◌<◌, min}
use native.Mathlib.Omega.{arith}
use mathlib.Core.Path.{◌≡◌, refl, sym, ◌∙◌, ap, ap₂}
use mathlib.Core.Logic.{◌↔◌}
use mathlib.Core.Bool.{true, false, true≢false}
use mathlib.Core.List.{List, ◌∷◌}
use lib.ListN.{length, get_or, take, drop, length-map}
use lib.Seq.{slice, take-take, length-slice}
use Rattle.theory.specs.Rules as theory
use Rattle.table.specs.declared.Atom.{Atom}
use Rattle.table.specs.declared.Rule.{Rule}
use Rattle.table.specs.Rules.{numbers, rule_of, no_atom}
use Rattle.table.proofs.Entries.{part-over, part-next, positives-are, negatives-are, entries-are}
use Rattle.table.proofs.Entries.{numbers-take, numbers-drop}

-- An answer no is right of rules that differ.
differ : {q r : theory.Rule} → (q ≡ r → ⊥) → (false ≡ true) ↔ (q ≡ r)
differ f = (λ t. absurd (true≢false (sym t)), λ e. absurd (f e))

-- A walk over the entries of two rules from j to below n, on which the rules are equal exactly if the entries that are
-- left are equal in number.
module _ (xs ys : List Atom) (j n : ℕ) (q r : theory.Rule)
    (left : (numbers (slice j n xs) ≡ numbers (slice j n ys)) ↔ (q ≡ r)) where
  pub equal_over : n ≤ j → (true ≡ true) ↔ (q ≡ r)
  equal_over l = (λ t. left.0 (part-over xs j n l ∙ sym (part-over ys j n l)), λ e. refl)

  module _ (l : j < n) (kx : n ≤ length xs) (ky : n ≤ length ys) where
    pub equal_next :
        (get_or xs j no_atom).0 ≡ (get_or ys j no_atom).0
        → (numbers (slice (j + 1) n xs) ≡ numbers (slice (j + 1) n ys)) ↔ (q ≡ r)
    equal_next e = (
      λ h. left.0 (part-next xs j n l kx ∙ ap₂ ◌∷◌ e h ∙ sym (part-next ys j n l ky)),
      λ h. ap (drop 1) (sym (part-next xs j n l kx) ∙ left.1 h ∙ part-next ys j n l ky),
    )

    pub equal-stop : ((get_or xs j no_atom).0 ≡ (get_or ys j no_atom).0 → ⊥) → (false ≡ true) ↔ (q ≡ r)
    equal-stop f = differ (λ h.
        f (ap (λ zs. get_or zs 0 0) (sym (part-next xs j n l kx) ∙ left.1 h ∙ part-next ys j n l ky)))

size : (xs : List Atom) (f t : ℕ) → t ≤ length xs → length (numbers (slice f t xs)) ≡ t - f
size xs f t l = length-map (slice f t xs) _ ∙ length-slice f t xs l

level : (n m p q : ℕ) → p ≤ n → q ≤ m → p ≡ q → n - p ≡ m - q → n ≡ m
level n m p q k l e h = omega arith

-- The negative list ends where the positive list ends, or later.
ordered : (x y k : ℕ) {p n : ℕ} → p ≡ min x k → n ≡ min (x + y) k → p ≤ n
ordered x y k e h = omega arith

-- Equal entries have equal parts.
front-equal :
    (xs ys : List Atom) (p n : ℕ) → p ≤ n → numbers (slice 0 n xs) ≡ numbers (slice 0 n ys)
    → numbers (slice 0 p xs) ≡ numbers (slice 0 p ys)
front-equal xs ys p n l e =
    ap numbers (sym (take-take p n xs l)) ∙ sym (numbers-take p (take n xs)) ∙ ap (take p) e
    ∙ numbers-take p (take n ys) ∙ ap numbers (take-take p n ys l)

back-equal :
    (xs ys : List Atom) (p n : ℕ) → numbers (slice 0 n xs) ≡ numbers (slice 0 n ys)
    → numbers (slice p n xs) ≡ numbers (slice p n ys)
back-equal xs ys p n e = sym (numbers-drop p (take n xs)) ∙ ap (drop p) e ∙ numbers-drop p (take n ys)

pub other-head : (a b : Rule) → (a.head.0 ≡ b.head.0 → ⊥) → (false ≡ true) ↔ (rule_of a ≡ rule_of b)
other-head a b f = differ (λ e. f (ap (λ z. z.head) e))

-- Two rules with room for k entries, whose lists end at p and n, and at q and m.
module _ (a b : Rule) (k : ℕ) (long-a : length a.entries ≡ k) (long-b : length b.entries ≡ k)
    (p q : ℕ) (p-is : p ≡ min a.positives k) (q-is : q ≡ min b.positives k) where
  pub other-positives : (p ≡ q → ⊥) → (false ≡ true) ↔ (rule_of a ≡ rule_of b)
  other-positives f = differ (λ h.
      let e : numbers (slice 0 p a.entries) ≡ numbers (slice 0 q b.entries) =
      sym (positives-are a k long-a p p-is) ∙ ap (λ z. z.positives) h ∙ positives-are b k long-b q q-is in
      let l : p - 0 ≡ q - 0 =
      sym (size a.entries 0 p (omega arith)) ∙ ap length e ∙ size b.entries 0 q (omega arith) in
      f (omega arith))

  module _ (n m : ℕ) (n-is : n ≡ min (a.positives + a.negatives) k)
      (m-is : m ≡ min (b.positives + b.negatives) k) (even : p ≡ q) where
    pub other-negatives : (n ≡ m → ⊥) → (false ≡ true) ↔ (rule_of a ≡ rule_of b)
    other-negatives f = differ (λ h.
        let e : numbers (slice p n a.entries) ≡ numbers (slice q m b.entries) =
        sym (negatives-are a k long-a p p-is n n-is) ∙ ap (λ z. z.negatives) h
        ∙ negatives-are b k long-b q q-is m m-is in
        let l : n - p ≡ m - q =
        sym (size a.entries p n (omega arith)) ∙ ap length e ∙ size b.entries q m (omega arith) in
        f (level n m p q (ordered a.positives a.negatives k p-is n-is)
        (ordered b.positives b.negatives k q-is m-is) even l))

    -- Heads and ends are equal: the rules are equal exactly if all entries up to the ends are.
    pub equal-from :
        n ≡ m → a.head.0 ≡ b.head.0
        → (numbers (slice 0 n a.entries) ≡ numbers (slice 0 n b.entries)) ↔ (rule_of a ≡ rule_of b)
    equal-from e h = (λ t. all t, λ w. entries-equal w)
      where
        all : numbers (slice 0 n a.entries) ≡ numbers (slice 0 n b.entries) → rule_of a ≡ rule_of b
        all t =
            let ps = positives-are a k long-a p p-is
            ∙ front-equal a.entries b.entries p n (ordered a.positives a.negatives k p-is n-is) t
            ∙ sym (positives-are b k long-b p (even ∙ q-is)) in
            let ns = negatives-are a k long-a p p-is n n-is
            ∙ back-equal a.entries b.entries p n t
            ∙ sym (negatives-are b k long-b p (even ∙ q-is) n (e ∙ m-is)) in
            λ i. record { head = h i; positives = ps i; negatives = ns i }

        entries-equal : rule_of a ≡ rule_of b → numbers (slice 0 n a.entries) ≡ numbers (slice 0 n b.entries)
        entries-equal w =
            entries-are a k long-a n n-is ∙ ap theory.entries w ∙ sym (entries-are b k long-b n (e ∙ m-is))
