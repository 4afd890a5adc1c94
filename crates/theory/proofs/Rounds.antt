-- A round over the slots: what it keeps, what it adds, and what it has reached. Assumes nothing.
use Prim.Native.Nat.{ℕ, zero, suc, ◌≤◌, ◌<◌}
use native.Mathlib.Omega.{arith}
use native.Mathlib.Nat.{eq-or-lt_of_le}
use mathlib.Core.Path.{◌≡◌, refl, sym, ◌∙◌, ap}
use mathlib.Core.Logic.{⊎_elim}
use mathlib.Core.Bool.{Bool, true, false, not, ◌&&◌, ◌||◌, true≢false}
use mathlib.Core.List.{[], ◌∷◌}
use mathlib.Core.Option.{Option, none, some, none-ne-some}
use lib.Dec.{eqb}
use Rattle.theory.specs.Lists.{◌∈◌}
use Rattle.theory.specs.Rules.{Held, Program, Rule}
use Rattle.theory.specs.Models.{Admissible, AtomSet, valid}
use Rattle.theory.specs.Derivations.{Derivation}
use Rattle.theory.specs.Rounds.{adds, fires, head_added, sweep, visit, with}
use Rattle.theory.proofs.Lists.{and_l, and-of, and_r, clash, eqb-eq, eqb_of}
use Rattle.theory.proofs.Lists.{false-not, not-true, or-false-l, or-false-r, test, unless}
use Rattle.theory.proofs.Rules.{valid-negative, valid-of, valid-positive}
use Rattle.theory.proofs.Fill.{Filled, filled-agrees, filled-suc, filled-with, filled_within, with-keep}
use Rattle.theory.proofs.Fill.{with-self}
use Rattle.theory.proofs.Derivations.{entry, last}
use Rattle.theory.proofs.Strata.{Strata}

module _ (ℓ : ℕ → ℕ) (k : ℕ) where
  head_added-keeps : (t : Bool) (o : Option Rule) (M : AtomSet) (x : ℕ) → M x ≡ true → head_added t o M x ≡ true
  head_added-keeps false o M x h = h
  head_added-keeps true none M x h = h
  head_added-keeps true (some r) M x h = with-keep r.head M x h

  pub sweep-keeps : (P : Program) (M : AtomSet) (x : ℕ) → M x ≡ true → sweep ℓ k M P x ≡ true
  unfolding sweep visit
  sweep-keeps [] M x h = h
  sweep-keeps (o ∷ P) M x h = sweep-keeps P (visit ℓ k M o) x (head_added-keeps (fires ℓ k M o) o M x h)

  -- a rule that fires, or whose head is in, has its head in after the visit
  visit-hits : (M : AtomSet) (r : Rule) → ℓ r.head ≡ k → valid M r ≡ true → visit ℓ k M (some r) r.head ≡ true
  unfolding visit fires
  visit-hits M r e v = ⊎_elim
      (λ (t : M r.head ≡ true). head_added-keeps (fires ℓ k M (some r)) (some r) M r.head t)
      (λ (t : M r.head ≡ false). (
      let f : fires ℓ k M (some r) ≡ true = and-of _ _ (eqb_of _ _ e) (and-of _ _ (false-not _ t) v) in
      rw f (with-self r.head M)))
      (test (M r.head))

  -- a rule of the stratum with positives in at the start and no negative in at the end has its head in at the end
  pub sweep-hits : (P : Program) (M : AtomSet) (s : ℕ) (r : Rule) → Held P s r → ℓ r.head ≡ k
      → ((p : ℕ) → p ∈ r.positives → M p ≡ true) → ((n : ℕ) → n ∈ r.negatives → sweep ℓ k M P n ≡ false)
      → sweep ℓ k M P r.head ≡ true
  unfolding sweep visit
  sweep-hits [] M s r h e hp hn = absurd (none-ne-some r h)
  sweep-hits (o ∷ P) M zero r h e hp hn =
      sweep-keeps P (visit ℓ k M o) r.head
      (rw h (visit-hits M r e (valid-of M r hp (λ n m. unless _ (λ t. clash (sweep-keeps (o ∷ P) M n t) (hn n m))))))
  sweep-hits (o ∷ P) M (suc s) r h e hp hn = sweep-hits P (visit ℓ k M o) s r h e
      (λ p m. head_added-keeps (fires ℓ k M o) o M p (hp p m)) hn

  -- a round that adds none leaves the set
  pub adds_none : (P : Program) (M : AtomSet) → adds ℓ k M P ≡ false → sweep ℓ k M P ≡ M
  unfolding sweep visit adds
  adds_none [] M h = refl
  adds_none (o ∷ P) M h = adds_none P (visit ℓ k M o) (or-false-r (fires ℓ k M o) _ h) ∙ ap
      (λ t. head_added t o M) (or-false-l (fires ℓ k M o) _ h)

  -- what a round that adds some adds
  pub record Added (M N : AtomSet) : Type 0 where
    pub atom : ℕ
    pub stratum : ℓ atom ≡ k
    pub was : M atom ≡ false
    pub now : N atom ≡ true

  fired : (M : AtomSet) (o : Option Rule) → fires ℓ k M o ≡ true
      → (r : Rule) × (o ≡ some r) × (ℓ r.head ≡ k) × (M r.head ≡ false) × (valid M r ≡ true)
  unfolding fires
  fired M none h = absurd (true≢false (sym h))
  fired M (some r) h =
      let t = and_r (eqb (ℓ r.head) k) (not (M r.head) && valid M r) h in (
        r,
        refl,
        eqb-eq _ _ (and_l (eqb (ℓ r.head) k) _ h),
        not-true _
            (and_l (not (M r.head)) (valid M r) t),
        and_r (not (M r.head)) (valid M r) t,
      )

  visited : (M : AtomSet) (o : Option Rule) (r : Rule) → o ≡ some r → fires ℓ k M o ≡ true
      → visit ℓ k M o ≡ with r.head M
  unfolding visit
  visited M o r e f = ap (λ t. head_added t o M) f ∙ ap (λ q. head_added true q M) e

  passed : (M : AtomSet) (o : Option Rule) → fires ℓ k M o ≡ false → visit ℓ k M o ≡ M
  unfolding visit
  passed M o f = ap (λ t. head_added t o M) f

  pub adds-some : (P : Program) (M : AtomSet) → adds ℓ k M P ≡ true → Added M (sweep ℓ k M P)
  unfolding sweep adds
  adds-some [] M h = absurd (true≢false (sym h))
  adds-some (o ∷ P) M h = ⊎_elim
      (λ (f : fires ℓ k M o ≡ true). (
      let w = fired M o f in
      record {
        atom = w.0.head;
        stratum = w.2;
        was = w.3;
        now = sweep-keeps P (visit ℓ k M o) w.0.head
            (rw (visited M o w.0 w.1 f) (with-self w.0.head M));
      }))
      (λ (f : fires ℓ k M o ≡ false). (
      let e = passed M o f in
      let i : adds ℓ k (visit ℓ k M o) P ≡ true = or-r' (fires ℓ k M o) _ f h in
      let a = adds-some P (visit ℓ k M o) i in
      record {
        atom = a.atom;
        stratum = a.stratum;
        was = ap
            (λ (N : AtomSet). N a.atom) (sym e) ∙ a.was;
        now = a.now;
      }))
      (test (fires ℓ k M o))
    where
      or-r' : (x y : Bool) → x ≡ false → (x || y) ≡ true → y ≡ true
      or-r' true y p q = absurd (true≢false p)
      or-r' false y p q = q

-- every atom of the stratum that is derived in N by at most j levels is in M
abbrev pub LevelsIn : Program → (ℕ → ℕ) → ℕ → AtomSet → ℕ → AtomSet → Type 0
LevelsIn P ℓ k N j M = (a h : ℕ) → ℓ a ≡ k → Derivation P N a h → h ≤ j → M a ≡ true

module _ (P : Program) (ℓ : ℕ → ℕ) (L : Strata P ℓ) (k : ℕ) where
  sweep-filled : (c : Program) → ((s : ℕ) (r : Rule) → Held c s r → (z : ℕ) × Held P z r) → (M : AtomSet)
      → Filled P ℓ k M → Filled P ℓ k (sweep ℓ k M c)
  unfolding sweep
  sweep-filled [] of M F = F
  sweep-filled (o ∷ c) of M F = sweep-filled c (λ s r h. of (suc s) r h) (visit ℓ k M o) (⊎_elim
      (λ (f : fires ℓ k M o ≡ true). (
      let w = fired ℓ k M o f in
      let z = of zero w.0 w.1 in
      rw (visited ℓ k M o w.0 w.1 f) (filled-with P ℓ L k M F z.0 w.0 z.1 w.2 w.4 w.3)))
      (λ (f : fires ℓ k M o ≡ false). rw (passed ℓ k M o f) F)
      (test (fires ℓ k M o)))

  pub sweep-stays : (M : AtomSet) → Filled P ℓ k M → Filled P ℓ k (sweep ℓ k M P)
  sweep-stays = sweep-filled P (λ s r h. (s, h))

  -- After a round that adds none the stratum is filled: had it a valid rule whose head is not in, the round would have
  -- put that head in.
  pub adds-none-filled : (M : AtomSet) → Filled P ℓ k M → adds ℓ k M P ≡ false → Filled P ℓ (suc k) M
  adds-none-filled M F h = filled-suc P ℓ L k M F (λ s r held e v.
      let q = adds_none ℓ k P M h in
      ap (λ (N : AtomSet). N r.head) (sym q) ∙ sweep-hits ℓ k P M s r held e (valid-positive M r v)
      (λ n m. ap (λ (N : AtomSet). N n) q ∙ valid-negative M r v n m))

  pub levels-zero : (N M : AtomSet) → LevelsIn P ℓ k N zero M
  levels-zero N M a h e d l = absurd (omega (arith, (last d).height))

  pub levels-suc : (N : AtomSet) → Admissible P N → (j : ℕ) (M : AtomSet) → Filled P ℓ k M → LevelsIn P ℓ k N j M
      → LevelsIn P ℓ k N (suc j) (sweep ℓ k M P)
  levels-suc N A j M F R a h e d l =
      let w = last d in
      let r = w.rule in
      let M' = sweep ℓ k M P in
      let stratum-head : ℓ r.head ≡ k = ap ℓ w.heads ∙ e in
      ap M' (sym w.heads) ∙ sweep-hits ℓ k P M w.slot r w.held stratum-head
      (λ p m. ⊎_elim
      (λ (q : ℓ p ≡ ℓ r.head).
      (let i = entry w.parts p m in R p i.0 (q ∙ stratum-head) i.1 (omega (arith, i.2, w.height))))
      (λ (q : ℓ p < ℓ r.head). filled-agrees P ℓ L k M N F A p (omega arith) ∙ valid-positive N r w.good p m)
      (eq-or-lt_of_le (L.up w.slot r w.held p m)))
      (λ n m. unless _ (λ t. clash (filled_within P ℓ L k M' N (sweep-stays M F) A n t)
      (valid-negative N r w.good n m)))
