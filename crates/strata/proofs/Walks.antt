-- Walks: paths of dependencies that count all their steps. Without a negative cycle each can be shortened to as many
-- steps as there are rules, at the same weight. Assumes nothing.
-- The idea: cut out what lies between the first and the last visit of the start, which is a cycle and so has no
-- negative step. After that the rules with this head are not used again: go on with one rule less at least.
use Prim.Native.Nat.{ℕ, zero, suc, ◌+◌, ◌≤◌, ◌<◌}
use native.Mathlib.Omega.{arith}
use mathlib.Core.Path.{◌≡◌, refl, ◌∙◌, ap, subst}
use mathlib.Core.Logic.{◌⊎◌, inl, inr, ⊎_elim}
use mathlib.Core.Bool.{Bool, true, false, not, ◌&&◌}
use lib.Dec.{eqb}
use lib.ListN.{length}
use Rattle.theory.specs.Lists.{◌∈◌}
use Rattle.theory.specs.Rules.{Rule, Program, Held}
use Rattle.theory.specs.Dependencies.{DependencyPath, here, positive, negative, NegativeCycle}
use Rattle.theory.specs.Questions.{rules}
use Rattle.theory.proofs.Lists.{and_l, and_r, and-of, unless, clash, test, false-not, not-true, eqb-eq, eqb_of}
use Rattle.theory.proofs.Lists.{count, count-length, count-lt}
use Rattle.theory.proofs.Rules.{rules-of}

-- x is an entry of r. A positive one weighs 0, a negative one 1.
pub data Entry (r : Rule) (x : ℕ) : ℕ → Type 0 where
  plain : x ∈ r.positives → Entry r x 0
  denied : x ∈ r.negatives → Entry r x 1

-- One step of dependency, of weight w.
pub record Step (P : Program) (a x w : ℕ) : Type 0 where
  pub slot : ℕ
  pub rule : Rule
  pub held : Held P slot rule
  pub heads : rule.head ≡ a
  pub entry : Entry rule x w

-- A step, and then a path.
pub after : {P : Program} {a x c w k : ℕ} → Step P a x w → DependencyPath P x c k → DependencyPath P a c (w + k)
after {P} {a} {x} {c} {w} {k} d v = go d.entry
  where
    go : {w : ℕ} → Entry d.rule x w → DependencyPath P a c (w + k)
    go (plain m) =
        (let e : 0 + k ≡ k = omega arith in
        rw e (positive (record { slot = d.slot; rule = d.rule; held = d.held; heads = d.heads; entry = m }) v))
    go (denied m) =
        (let e : 1 + k ≡ suc k = omega arith in
        rw e (negative (record { slot = d.slot; rule = d.rule; held = d.held; heads = d.heads; entry = m }) v))

-- A walk from a to c of n steps and of weight k, that is with k negative steps; it steps only from allowed atoms.
pub data Walk (P : Program) (allowed : ℕ → Bool) : ℕ → ℕ → ℕ → ℕ → Type 0 where
  stay : {a c : ℕ} → a ≡ c → Walk P allowed a c zero zero
  step : {a x c w n j k : ℕ} → allowed a ≡ true → Step P a x w → Walk P allowed x c n j → k ≡ w + j
      → Walk P allowed a c (suc n) k

abbrev pub everywhere : ℕ → Bool
everywhere a = true

-- A path is a walk.
pub path-walk : {P : Program} {a c k : ℕ} → DependencyPath P a c k → (n : ℕ) × Walk P everywhere a c n k
path-walk (here e) = (zero, stay e)
path-walk {P} (positive {a = a} {x = x} {k = k} d v) =
    let s : Step P a x 0 =
    record { slot = d.slot; rule = d.rule; held = d.held; heads = d.heads; entry = plain d.entry } in
    let e : k ≡ 0 + k = omega arith in
    (suc (path-walk v).0, step refl s (path-walk v).1 e)
path-walk {P} (negative {a = a} {x = x} {k = k} d v) =
    let s : Step P a x 1 =
    record { slot = d.slot; rule = d.rule; held = d.held; heads = d.heads; entry = denied d.entry } in
    let e : suc k ≡ 1 + k = omega arith in
    (suc (path-walk v).0, step refl s (path-walk v).1 e)

-- All atoms that are allowed but a.
abbrev other : ℕ → (ℕ → Bool) → ℕ → Bool
other a allowed x = allowed x && not (eqb x a)

widen : {P : Program} (a : ℕ) (allowed : ℕ → Bool) {x c n k : ℕ} → Walk P (other a allowed) x c n k
    → Walk P allowed x c n k
widen a allowed (stay e) = stay e
widen a allowed (step {a = x} o d v q) = step (and_l (allowed x) _ o) d (widen a allowed v) q

-- A walk from a that steps from a at its start and then never again.
record Leaving (P : Program) (allowed : ℕ → Bool) (a c k : ℕ) : Type 0 where
  entry : ℕ
  weight : ℕ
  steps : ℕ
  left : ℕ
  starts : allowed a ≡ true
  first : Step P a entry weight
  rest : Walk P (other a allowed) entry c steps left
  sum : k ≡ weight + left

-- A walk from x that comes to a, for the last time where what is ahead begins: nothing, or a walk that leaves a.
record Coming (P : Program) (allowed : ℕ → Bool) (a x c k : ℕ) : Type 0 where
  before : ℕ
  ahead : ℕ
  back : DependencyPath P x a before
  onward : ((a ≡ c) × (ahead ≡ 0)) ⊎ Leaving P allowed a c ahead
  sum : k ≡ before + ahead

-- Fewer rules have allowed heads once the head of some step is not allowed any more.
fewer : {P : Program} (allowed : ℕ → Bool) {a x w : ℕ} → allowed a ≡ true → Step P a x w
    → count (λ r. other a allowed r.head) (rules P) < count (λ r. allowed r.head) (rules P)
fewer {P} allowed {a} o d =
    count-lt (λ r. other a allowed r.head) (λ r. allowed r.head) (rules P)
    (λ r m t. and_l (allowed r.head) _ t) d.rule (rules-of P d.slot d.rule d.held)
    (unless _ (λ t. clash (eqb_of _ _ d.heads) (not-true _ (and_r (allowed d.rule.head) _ t))))
    (ap allowed d.heads ∙ o)

-- A walk never steps from a, or it comes to a.
last-visit : {P : Program} (a : ℕ) (allowed : ℕ → Bool) {x c n k : ℕ} → Walk P allowed x c n k
    → Walk P (other a allowed) x c n k ⊎ Coming P allowed a x c k
last-visit a allowed (stay e) = inl (stay e)
last-visit {P} a allowed (step {a = x} {x = y} {c = c} {w = w} {n = n} {j = j} {k = k} o d v q) = ⊎_elim
    (λ (u : Walk P (other a allowed) y c n j). ⊎_elim
    (λ (t : eqb x a ≡ true). (
    let e = eqb-eq x a t in
    inr (record {
      before = 0;
      ahead = k;
      back = here e;
      onward = inr (record {
        entry = y;
        weight = w;
        steps = n;
        left = j;
        starts = subst (λ (z : ℕ). allowed z ≡ true) e o;
        first = subst (λ (z : ℕ). Step P z y w) e d;
        rest = u;
        sum = q;
      });
      sum = omega arith;
    })))
    (λ (t : eqb x a ≡ false). inl (step (and-of _ _ o (false-not _ t)) d u q))
    (test (eqb x a)))
    (λ (u : Coming P allowed a y c j). inr (record {
      before = w + u.before;
      ahead = u.ahead;
      back = after d u.back;
      onward = u.onward;
      sum = omega (arith, u.sum);
    }))
    (last-visit a allowed v)

module _ (P : Program) (free : NegativeCycle P → ⊥) where
  no-weight : (j : ℕ) {a : ℕ} → DependencyPath P a a j → j ≡ 0
  no-weight zero v = refl
  no-weight (suc j) {a} v = absurd (free (record { atom = a; further = j; cycle = v }))

  -- What lies between the first and the last visit of a walk's start weighs nothing.
  simple : {allowed : ℕ → Bool} {a c n k : ℕ} → Walk P allowed a c n k
      → ((a ≡ c) × (k ≡ 0)) ⊎ Leaving P allowed a c k
  simple (stay e) = inl (e, refl)
  simple {allowed} (step {a = a} {x = x} {c = c} {w = w} {n = n} {j = j} {k = k} o d v q) = ⊎_elim
      (λ (u : Walk P (other a allowed) x c n j). inr (record {
        entry = x;
        weight = w;
        steps = n;
        left = j;
        starts = o;
        first = d;
        rest = u;
        sum = q;
      }))
      (λ (u : Coming P allowed a x c j). (
      let e : w + u.before ≡ 0 = no-weight _ (after d u.back) in
      let same : k ≡ u.ahead = omega (arith, u.sum) in
      rw same u.onward))
      (last-visit a allowed v)

  -- So a walk can be shortened to as many steps as there are rules with allowed heads.
  shorten : (m : ℕ) (allowed : ℕ → Bool) → count (λ r. allowed r.head) (rules P) ≤ m
      → {a c n k : ℕ} → Walk P allowed a c n k → (i : ℕ) × (i ≤ m) × Walk P allowed a c i k
  shorten zero allowed l {a} {c} {n} {k} v = ⊎_elim
      (λ (t : (a ≡ c) × (k ≡ 0)). (0, omega arith, rw t.1 (stay t.0)))
      (λ (t : Leaving P allowed a c k). absurd (omega (arith, fewer allowed t.starts t.first)))
      (simple v)
  shorten (suc m) allowed l {a} {c} {n} {k} v = ⊎_elim
      (λ (t : (a ≡ c) × (k ≡ 0)). (0, omega arith, rw t.1 (stay t.0)))
      (λ (t : Leaving P allowed a c k). (
      let s = shorten m (other a allowed) (omega (arith, fewer allowed t.starts t.first)) t.rest in
      (suc s.0, omega (arith, s.1), step t.starts t.first (widen a allowed s.2) t.sum)))
      (simple v)

  pub short-walk : {a c k : ℕ} → DependencyPath P a c k
      → (i : ℕ) × (i ≤ length (rules P)) × Walk P everywhere a c i k
  short-walk v = shorten (length (rules P)) everywhere (count-length _ (rules P)) (path-walk v).1
