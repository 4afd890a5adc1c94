-- Laws of the greatest number among a rule's entries, of what a rule needs, and of raising a number. Assumes nothing.
use Prim.Native.Nat.{ℕ, ◌+◌, ◌≤◌, ◌<◌, min, max}
use native.Mathlib.Omega.{arith}
use mathlib.Core.Path.{◌≡◌, refl, sym, ◌∙◌, ap, ap₂, subst}
use mathlib.Core.Logic.{◌⊎◌, inl, inr, ⊎_elim}
use mathlib.Core.Bool.{Bool, true, false, true≢false}
use mathlib.Core.List.Memᴰ
use mathlib.Core.List.{List, [], ◌∷◌}
use mathlib.Core.Option.{some}
use lib.ListN.{length, get_or, set, length-set}
use lib.Seq.{slice}
use Rattle.theory.specs.Lists.{◌∈◌, greatest}
use Rattle.theory.specs.Rules as theory
use Rattle.theory.proofs.Lists.{le-or-lt}
use Rattle.theory.proofs.Certificate.{greatest-at}
use Rattle.table.specs.declared.Atom.{Atom}
use Rattle.table.specs.declared.Rule.{Rule}
use Rattle.table.specs.Sets.{number}
use Rattle.table.specs.Rules.{numbers, rule_of, slot_of, no_atom}
use Rattle.table.proofs.Programs.{slot_held}
use Rattle.table.proofs.Entries.{part-next, greatest-over, greatest-next, positives-are, negatives-are}
use Rattle.strata.specs.Needed.{plus, needed, AllBelow, EntriesBelow, Raised}
use Rattle.strata.proofs.Walks.{Entry, plain, denied}

-- A walk over the entries from j to below n: what was found and what is left give the whole.
module _ (step : ℕ) (ℓ : ℕ → ℕ) (xs : List Atom) (j n : ℕ) where
  pub walked-over :
      (most whole : ℕ) → n ≤ j → max most (greatest (plus step ℓ) (numbers (slice j n xs))) ≡ whole → most ≡ whole
  walked-over most whole l e = omega (arith, greatest-over (plus step ℓ) xs j n l)

  pub walked_next :
      (most whole v next : ℕ) → j < n → n ≤ length xs → v ≡ ℓ (get_or xs j no_atom).0 → next ≡ max most (step + v)
      → max most (greatest (plus step ℓ) (numbers (slice j n xs))) ≡ whole
      → max next (greatest (plus step ℓ) (numbers (slice (j + 1) n xs))) ≡ whole
  walked_next most whole v next l k e f g = omega (arith, greatest-next (plus step ℓ) xs j n l k)

-- If the entries from j to below n are below b, so are entry j and those after it.
module _ (xs : List Atom) (b j n : ℕ) (B : AllBelow b (numbers (slice j n xs))) (l : j < n) (k : n ≤ length xs) where
  from-here : AllBelow b ((get_or xs j no_atom).0 ∷ numbers (slice (j + 1) n xs))
  from-here = subst (AllBelow b) (part-next xs j n l k) B

  pub entry-below : (get_or xs j no_atom).0 < b
  entry-below = from-here _ (Memᴰ.head refl)

  pub rest_below : AllBelow b (numbers (slice (j + 1) n xs))
  rest_below x m = from-here x (Memᴰ.tail m)

-- The two parts of a slot's entries are below what all of them are below.
module _ (r : Rule) (b e : ℕ) (long : length r.entries ≡ e) (held : r.state ≡ 0 → ⊥)
    (B : EntriesBelow b (slot_of r)) (p : ℕ) (here : p ≡ min r.positives e) where
  pub positives-below : AllBelow b (numbers (slice 0 p r.entries))
  positives-below = subst (AllBelow b) (positives-are r e long p here)
      (λ x m. B (rule_of r) (slot_held r held) x (Memᴰ.append_left _ m))

  pub negatives-below : (n : ℕ) → n ≡ min (r.positives + r.negatives) e
      → AllBelow b (numbers (slice p n r.entries))
  negatives-below n there = subst (AllBelow b) (negatives-are r e long p here n there)
      (λ x m. B (rule_of r) (slot_held r held) x (Memᴰ.append_right (rule_of r).positives m))

-- What a slot that holds a rule needs: the greater of what its two lists need.
pub needed-held :
    (ℓ : ℕ → ℕ) (r : Rule) (b : ℕ) → length r.entries ≡ b → (r.state ≡ 0 → ⊥)
    → (p n : ℕ) → p ≡ min r.positives b → n ≡ min (r.positives + r.negatives) b
    → (x y z : ℕ) → x ≡ greatest (plus 0 ℓ) (numbers (slice 0 p r.entries))
    → y ≡ greatest (plus 1 ℓ) (numbers (slice p n r.entries)) → z ≡ max x y → z ≡ needed ℓ (slot_of r)
needed-held ℓ r b long held p n here there x y z e f g =
    let u : greatest (plus 0 ℓ) (rule_of r).positives ≡ x =
    ap (greatest (plus 0 ℓ)) (positives-are r b long p here) ∙ sym e in
    let v : greatest (plus 1 ℓ) (rule_of r).negatives ≡ y =
    ap (greatest (plus 1 ℓ)) (negatives-are r b long p here n there) ∙ sym f in
    g ∙ sym (ap (needed ℓ) (slot_held r held) ∙ ap₂ max u v)

-- The number raised, or kept.
module _ (xs : List ℕ) (a n : ℕ) where
  pub keeps : n ≤ number xs a → Raised xs a n xs false
  keeps l = record { kept = λ t. (l, refl); higher = λ t. absurd (true≢false (sym t)) }

  pub raises : number xs a < n → (ys : List ℕ) → ys ≡ set xs a n → Raised xs a n ys true
  raises l ys e = record { kept = λ t. absurd (true≢false t); higher = λ t. (l, e) }

pub raised-length : (xs ys : List ℕ) (a n : ℕ) (flag : Bool) → Raised xs a n ys flag → length ys ≡ length xs
raised-length xs ys a n true R = ap length (R.higher refl).1 ∙ length-set xs a n
raised-length xs ys a n false R = ap length (R.kept refl).1

-- The greatest number is that of one of the atoms, or 0.
module _ (w : ℕ) (ℓ : ℕ → ℕ) where
  greatest-reached :
      (xs : List ℕ) → (greatest (plus w ℓ) xs ≡ 0) ⊎ ((x : ℕ) × (x ∈ xs) × (greatest (plus w ℓ) xs ≡ w + ℓ x))
  unfolding greatest
  greatest-reached [] = inl refl
  greatest-reached (y ∷ ys) = ⊎_elim
      (λ (l : w + ℓ y ≤ greatest (plus w ℓ) ys). ⊎_elim
      (λ (e : greatest (plus w ℓ) ys ≡ 0). inl (omega arith))
      (λ (t : (x : ℕ) × (x ∈ ys) × (greatest (plus w ℓ) ys ≡ w + ℓ x)).
      inr (t.0, Memᴰ.tail t.1, omega (arith, t.2)))
      (greatest-reached ys))
      (λ (l : greatest (plus w ℓ) ys < w + ℓ y). inr (y, Memᴰ.head refl, omega arith))
      (le-or-lt _ _)

-- So what a rule needs is at least the weight and the number of each entry, and that of one of them or 0.
pub needed-enough : (ℓ : ℕ → ℕ) (r : theory.Rule) (x w : ℕ) → Entry r x w → w + ℓ x ≤ needed ℓ (some r)
needed-enough ℓ r x w (plain m) = omega (arith, greatest-at (plus 0 ℓ) r.positives x m)
needed-enough ℓ r x w (denied m) = omega (arith, greatest-at (plus 1 ℓ) r.negatives x m)

pub record Reached (ℓ : ℕ → ℕ) (r : theory.Rule) (n : ℕ) : Type 0 where
  pub atom : ℕ
  pub weight : ℕ
  pub entry : Entry r atom weight
  pub sum : n ≡ weight + ℓ atom

pub needed-reached : (ℓ : ℕ → ℕ) (r : theory.Rule) → (needed ℓ (some r) ≡ 0) ⊎ Reached ℓ r (needed ℓ (some r))
needed-reached ℓ r = go (greatest-reached 0 ℓ r.positives) (greatest-reached 1 ℓ r.negatives) (le-or-lt p n)
  where
    p : ℕ
    p = greatest (plus 0 ℓ) r.positives

    n : ℕ
    n = greatest (plus 1 ℓ) r.negatives

    go : (p ≡ 0) ⊎ ((x : ℕ) × (x ∈ r.positives) × (p ≡ 0 + ℓ x))
        → (n ≡ 0) ⊎ ((x : ℕ) × (x ∈ r.negatives) × (n ≡ 1 + ℓ x))
        → (p ≤ n) ⊎ (n < p) → (max p n ≡ 0) ⊎ Reached ℓ r (max p n)
    go u (inl e) (inl l) = inl (omega arith)
    go u (inr t) (inl l) =
        inr (record { atom = t.0; weight = 1; entry = denied t.1; sum = omega (arith, t.2) })
    go (inl e) v (inr l) = inl (omega arith)
    go (inr t) v (inr l) = inr (record { atom = t.0; weight = 0; entry = plain t.1; sum = omega (arith, t.2) })
