-- Depths: each in atom has exactly one, and it is at most the number of in atoms. Assumes nothing.
use Prim.Native.Nat.{ℕ, zero, suc, ◌≤◌, ◌<◌}
use native.Mathlib.Omega.{arith}
use mathlib.Core.Path.{◌≡◌, refl, sym, ◌∙◌, ap, subst}
use mathlib.Core.Bool.{Bool, true, false, ◌&&◌, true≢false}
use mathlib.Core.Logic.{⊎_elim}
use mathlib.Core.List.Memᴰ
use mathlib.Core.List.{List, [], ◌∷◌}
use lib.Dec.{eqb}
use lib.ListN.{length}
use Rattle.theory.specs.Lists.{◌∈◌, every, Sorted, greatest}
use Rattle.theory.specs.Rules.{any_rule, Held, Program, Rule}
use Rattle.theory.specs.Models.{AtomSet, Closed, Founded, next, Ordered, start, valid}
use Rattle.theory.specs.Derivations.{by, Depth, Derivation}
use Rattle.theory.proofs.Lists.{and_l, and-of, and_r, clash, eqb-eq, eqb_of, every-at, every_of, le-or-lt}
use Rattle.theory.proofs.Lists.{sorted-within, test, unless}
use Rattle.theory.proofs.Rules.{any_rule-at, any_rule-of}
use Rattle.theory.proofs.Derivations.{entry, gather, last}

pub depth-unique : {P : Program} {M : AtomSet} {a d e : ℕ} → Depth P M a d → Depth P M a e → d ≡ e
depth-unique {d = d} {e = e} D E = omega (arith, D.least e E.reached, E.least d D.reached)

-- the k-th atom of an order has a derivation of at most k levels
pub ordered-height : (P : Program) (M : AtomSet) (xs : List ℕ) → Ordered P M xs → (x : ℕ) → x ∈ xs
    → (h : ℕ) × Derivation P M x h × (h ≤ length xs)
ordered-height P M [] start x m = absurd (Memᴰ.not-nil m)
ordered-height P M (a ∷ xs) (next o fresh s r held e v earlier) x m = ⊎_elim
    (λ (q : x ≡ a). (let g = gather P M (length xs) r.positives
    (λ p mp. ordered-height P M xs o p (earlier p mp)) in
    (suc g.0, by s r held (e ∙ sym q) v g.1, omega (arith, g.2))))
    (λ (m' : x ∈ xs). (let g = ordered-height P M xs o x m' in (g.0, g.1, omega (arith, g.2))))
    (Memᴰ.cases_cons m)

-- what has a derivation is in
pub derived-in : {P : Program} {M : AtomSet} {a h : ℕ} → Closed P M → Derivation P M a h → M a ≡ true
derived-in {M = M} c d = (let w = last d in ap M (sym w.heads) ∙ c w.slot w.rule w.held w.good)

-- A derivation of a of at most k levels, as a test.
unfoldable pub within : Program → AtomSet → ℕ → ℕ → Bool
within P M zero a = false
within P M (suc k) a = any_rule (λ r. eqb r.head a && (valid M r && every (within P M k) r.positives)) P

module _ (P : Program) (M : AtomSet) where
  pub within-derived : (k a : ℕ) → within P M k a ≡ true → (h : ℕ) × Derivation P M a h × (h ≤ k)
  unfolding within
  within-derived zero a t = absurd (true≢false (sym t))
  within-derived (suc k) a t =
      let w = any_rule-at (λ r. eqb r.head a && (valid M r && every (within P M k) r.positives)) P t in
      let r = w.1 in
      let u = and_r (eqb r.head a) (valid M r && every (within P M k) r.positives) w.3 in
      let g = gather P M k r.positives
      (λ p m. within-derived k p (every-at (within P M k) r.positives (and_r (valid M r) _ u) p m)) in (
        suc g.0,
        by w.0 r w.2 (eqb-eq _ _ (and_l (eqb r.head a) _ w.3)) (and_l (valid M r) _ u)
            g.1,
        omega (arith, g.2),
      )

  pub derived-within : (k a h : ℕ) → Derivation P M a h → h ≤ k → within P M k a ≡ true
  unfolding within
  derived-within zero a h d l = absurd (omega (arith, (last d).height))
  derived-within (suc k) a h d l =
      let w = last d in
      any_rule-of _ P w.slot w.rule w.held
      (and-of _ _ (eqb_of _ _ w.heads)
      (and-of _ _ w.good
      (every_of (within P M k) w.rule.positives
      (λ p m. (let i = entry w.parts p m in
      derived-within k p i.0 i.1 (omega (arith, i.2, w.height)))))))

  -- the least of the numbers up to k that pass, if k passes
  least-within : (k a : ℕ) → within P M k a ≡ true
      → (d : ℕ) × (d ≤ k) × (within P M d a ≡ true) × ((j : ℕ) → j < d → within P M j a ≡ false)
  least-within zero a t = (zero, omega arith, t, λ j l. absurd (omega arith))
  least-within (suc k) a t = ⊎_elim
      (λ (u : within P M k a ≡ true). (let w = least-within k a u in (w.0, omega (arith, w.1), w.2, w.3)))
      (λ (u : within P M k a ≡ false). (
        suc k,
        omega arith,
        t,
        λ j l. unless _
            (λ v. (let i = within-derived j a v in
            clash (derived-within k a i.0 i.1 (omega (arith, i.2))) u)),
      ))
      (test (within P M k a))

  pub within-depth : (k a : ℕ) → within P M k a ≡ true → (d : ℕ) × Depth P M a d × (d ≤ k)
  within-depth k a t =
      let w = least-within k a t in
      let i = within-derived w.0 a w.2 in
      let none : (h : ℕ) → Derivation P M a h → w.0 ≤ h = λ h d. ⊎_elim (λ (l : w.0 ≤ h). l)
      (λ (l : h < w.0). absurd (clash (derived-within h a h d (omega arith)) (w.3 h l))) (le-or-lt w.0 h) in
      let e : i.0 ≡ w.0 = omega (arith, i.2, none i.0 i.1) in
      (w.0, record { reached = subst (λ (z : ℕ). Derivation P M a z) e i.1; least = none }, w.1)

  -- an in atom has a depth, and it is at most the length of the order
  pub in-depth : (F : Founded P M) (a : ℕ) → M a ≡ true → (d : ℕ) × Depth P M a d × (d ≤ length F.order)
  in-depth F a t = (let w = ordered-height P M F.order F.ordered a ((F.exactly a).0 t) in
      within-depth (length F.order) a (derived-within _ a w.0 w.1 w.2))

pub greatest-le : (d : ℕ → ℕ) (h : ℕ) (xs : List ℕ) → ((x : ℕ) → x ∈ xs → d x ≤ h) → greatest d xs ≤ h
unfolding greatest
greatest-le d h [] f = omega arith
greatest-le d h (x ∷ xs) f = omega
    (arith, f x (Memᴰ.head refl), greatest-le d h xs (λ y m. f y (Memᴰ.tail m)))

-- numbers that no valid rule lowers are below every height
module _ (P : Program) (M : AtomSet) (d : ℕ → ℕ)
    (c : (s : ℕ) (r : Rule) → Held P s r → valid M r ≡ true → d r.head ≤ suc (greatest d r.positives)) where
  settled : (k a h : ℕ) → h ≤ k → Derivation P M a h → d a ≤ h
  settled zero a h l D = absurd (omega (arith, (last D).height))
  settled (suc k) a h l D =
      let w = last D in
      omega (
        arith,
        w.height,
        ap d w.heads,
        c w.slot w.rule w.held w.good,
        greatest-le d w.under
            w.rule.positives
            (λ p m. (let i = entry w.parts p m in
            omega (arith, i.2, settled k p i.0 (omega (arith, i.2, w.height)) i.1))),
      )

  pub settled-depth : (a : ℕ) → Derivation P M a (d a) → Depth P M a (d a)
  settled-depth a D = record { reached = D; least = λ h E. settled h a h (omega arith) E }

-- Each atom stands in an order once.
order-once : (P : Program) (M : AtomSet) (xs : List ℕ) → Ordered P M xs → Sorted (λ x y. x ≡ y → ⊥) xs
order-once P M [] start = tt
order-once P M (a ∷ xs) (next o fresh s r held e v earlier) =
    ((λ y m q. fresh (subst (λ (z : ℕ). z ∈ xs) (sym q) m)), order-once P M xs o)

-- A depth is at most the number of in atoms, which any list that holds exactly them has at least as entries.
pub depth-count :
    (P : Program) (M : AtomSet) → Founded P M → (ys : List ℕ) → ((x : ℕ) → M x ≡ true → x ∈ ys) → (a d : ℕ)
    → M a ≡ true → Depth P M a d → d ≤ length ys
depth-count P M F ys all a d t D =
    let w = in-depth P M F a t in
    let l = sorted-within (λ x y. x ≡ y → ⊥) (λ x f. f refl) ys F.order (order-once P M F.order F.ordered)
    (λ x m. all x ((F.exactly x).1 m)) in
    omega (arith, depth-unique D w.1, w.2, l)
