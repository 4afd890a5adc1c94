-- Walking dependencies: a walk of as many steps as there are rules finds every path, so `stratified` decides whether
-- there is a negative cycle. Assumes nothing.
use Prim.Native.Nat.{ℕ, zero, suc, ◌+◌, ◌≤◌, ◌<◌}
use native.Mathlib.Omega.{arith}
use native.Mathlib.Nat.{zero-add, suc-add}
use mathlib.Core.Path.{◌≡◌, refl, sym, ap, subst}
use mathlib.Core.Logic.{◌⊎◌, inl, inr, ⊎_elim, ◌↔◌}
use mathlib.Core.Bool.{Bool, true, false, not, ◌&&◌, true≢false}
use mathlib.Core.List.Memᴰ
use mathlib.Core.List.{List, Memᴰ}
use lib.Dec.{eqb}
use lib.ListN.{length}
use Rattle.theory.specs.Lists.{◌∈◌, any}
use Rattle.theory.specs.Rules.{entries, Held, Program, Rule}
use Rattle.theory.specs.Dependencies.{DependencyPath, Depends, here, negative, NegativeCycle, Negatively}
use Rattle.theory.specs.Dependencies.{positive}
use Rattle.theory.specs.Questions.{reaches, rules, stratified}
use Rattle.theory.proofs.Lists.{and_l, and-of, and_r, any_at, any_of, clash, count, count-all, count-lt}
use Rattle.theory.proofs.Lists.{eqb-eq, eqb_of, le-or-lt, or_cases, or_l, or_r, test}
use Rattle.theory.proofs.Rules.{rules-at, rules-of}

-- Two paths that meet are one.
pub paths : {P : Program} {a x c j k : ℕ} → DependencyPath P a x j → DependencyPath P x c k
    → DependencyPath P a c (j + k)
paths {P} {c = c} {k = k} (here e) w = subst (λ (z : ℕ). DependencyPath P z c (zero + k)) (sym e) (rw zero-add w)
paths (positive p v) w = positive p (paths v w)
paths (negative p v) w = rw suc-add (negative p (paths v w))

-- A path with a negative step, cut at its first: the rule's head, and the negative entry.
pub record FirstNegative (P : Program) (a c k : ℕ) : Type 0 where
  pub head : ℕ
  pub entry : ℕ
  pub before : DependencyPath P a head zero
  pub step : Negatively P head entry
  pub rest : DependencyPath P entry c k

pub first-negative : {P : Program} {a c k : ℕ} → DependencyPath P a c (suc k) → FirstNegative P a c k
first-negative (positive p w) =
    let f = first-negative w in
    record { head = f.head; entry = f.entry; before = positive p f.before; step = f.step; rest = f.rest }
first-negative (negative {a = a} {x = x} p w) =
    record { head = a; entry = x; before = here refl; step = p; rest = w }

-- Walks over a list of rules to c.
module _ (rs : List Rule) (c : ℕ) where
  pub reaches_here : (k a : ℕ) → a ≡ c → reaches rs k a c ≡ true
  unfolding reaches
  reaches_here zero a e = eqb_of a c e
  reaches_here (suc k) a e = or_l _ _ (eqb_of a c e)

  pub reaches_step : (k : ℕ) (r : Rule) (x : ℕ) → Memᴰ r rs → x ∈ entries r → reaches rs k x c ≡ true
      → reaches rs (suc k) r.head c ≡ true
  unfolding reaches
  reaches_step k r x m i t =
      or_r (eqb r.head c) _ (any_of _ rs r m
      (and-of _ _ (eqb_of r.head r.head refl) (any_of (λ y. reaches rs k y c) (entries r) x i t)))

  -- A walk that is not over has a first step.
  pub record FirstStep (k a : ℕ) : Type 0 where
    pub rule : Rule
    pub entry : ℕ
    pub known : Memᴰ rule rs
    pub heads : rule.head ≡ a
    pub among : entry ∈ entries rule
    pub rest : reaches rs k entry c ≡ true

  pub reaches-cases : (k a : ℕ) → reaches rs (suc k) a c ≡ true → (a ≡ c) ⊎ FirstStep k a
  unfolding reaches
  reaches-cases k a t = ⊎_elim
      (λ (u : eqb a c ≡ true). inl (eqb-eq a c u))
      (λ (u : any (λ r. eqb r.head a && any (λ x. reaches rs k x c) (entries r)) rs ≡ true). (
      let w = any_at (λ r. eqb r.head a && any (λ x. reaches rs k x c) (entries r)) rs u in
      let v = any_at (λ x. reaches rs k x c) (entries w.0) (and_r (eqb w.0.head a) _ w.2) in
      inr (record {
        rule = w.0;
        entry = v.0;
        known = w.1;
        heads = eqb-eq _ _ (and_l (eqb w.0.head a) _ w.2);
        among = v.1;
        rest = v.2;
      })))
      (or_cases (eqb a c) _ t)

  reaches_more : (k a : ℕ) → reaches rs k a c ≡ true → reaches rs (suc k) a c ≡ true
  reaches_more zero a t = reaches_here 1 a (eqb-eq a c (unfold reaches in t))
  reaches_more (suc k) a t = ⊎_elim
      (λ (e : a ≡ c). reaches_here (suc (suc k)) a e)
      (λ (s : FirstStep k a). subst (λ (z : ℕ). reaches rs (suc (suc k)) z c ≡ true) s.heads
      (reaches_step (suc k) s.rule s.entry s.known s.among (reaches_more k s.entry s.rest)))
      (reaches-cases k a t)

  pub reaches-within : (j k a : ℕ) → j ≤ k → reaches rs j a c ≡ true → reaches rs k a c ≡ true
  reaches-within j zero a l t = (let e : j ≡ 0 = omega arith in subst (λ (z : ℕ). reaches rs z a c ≡ true) e t)
  reaches-within j (suc k) a l t = ⊎_elim
      (λ (i : j ≤ k). reaches_more k a (reaches-within j k a i t))
      (λ (i : k < j). (let e : j ≡ suc k = omega arith in subst (λ (z : ℕ). reaches rs z a c ≡ true) e t))
      (le-or-lt j k)

  -- After k steps no rule's head is newly reached by one more.
  abbrev Settled : ℕ → Type 0
  Settled k = (r : Rule) → Memᴰ r rs → reaches rs (suc k) r.head c ≡ true → reaches rs k r.head c ≡ true

  -- As long as it is not settled, each step reaches one more rule's head: so it is settled after length rs steps.
  settles : (k : ℕ) → ((j : ℕ) × (j ≤ k) × Settled j) ⊎ (k ≤ count (λ r. reaches rs k r.head c) rs)
  settles zero = inr (omega arith)
  settles (suc k) = ⊎_elim
      (λ (w : (j : ℕ) × (j ≤ k) × Settled j). inl (w.0, omega (arith, w.1), w.2))
      (λ (l : k ≤ count (λ r. reaches rs k r.head c) rs). ⊎_elim
      (λ (i : count (λ r. reaches rs (suc k) r.head c) rs ≤ count (λ r. reaches rs k r.head c) rs).
      inl (k, omega arith, still i))
      (λ (i : count (λ r. reaches rs k r.head c) rs < count (λ r. reaches rs (suc k) r.head c) rs).
      inr (omega arith))
      (le-or-lt _ _))
      (settles k)
    where
      still : count (λ r. reaches rs (suc k) r.head c) rs ≤ count (λ r. reaches rs k r.head c) rs → Settled k
      still i r m t = ⊎_elim
          (λ (u : reaches rs k r.head c ≡ true). u)
          (λ (u : reaches rs k r.head c ≡ false). absurd (omega (
            arith,
            count-lt (λ r. reaches rs k r.head c) (λ r. reaches rs (suc k) r.head c) rs
                (λ q m' v. reaches_more k q.head v) r m u t,
          )))
          (test (reaches rs k r.head c))

  pub settled : (j : ℕ) × (j ≤ length rs) × Settled j
  settled = ⊎_elim
      (λ (w : (j : ℕ) × (j ≤ length rs) × Settled j). w)
      (λ (l : length rs ≤ count (λ r. reaches rs (length rs) r.head c) rs).
      (length rs, omega arith, λ r m t. count-all (λ r. reaches rs (length rs) r.head c) rs l r m))
      (settles (length rs))

-- From a to c along the dependencies of P, as a test.
unfoldable pub reach : Program → ℕ → ℕ → Bool
reach P a c = reaches (rules P) (length (rules P)) a c

module _ (P : Program) where
  walk-path : (k a c : ℕ) → reaches (rules P) k a c ≡ true → (j : ℕ) × DependencyPath P a c j
  walk-path zero a c t = (zero, here (eqb-eq a c (unfold reaches in t)))
  walk-path (suc k) a c t = ⊎_elim
      (λ (e : a ≡ c). (zero, here e))
      (λ (s : FirstStep (rules P) c k a). (
      let w = rules-at P s.rule s.known in
      let v = walk-path k s.entry c s.rest in
      ⊎_elim
      (λ (m : s.entry ∈ s.rule.positives).
      (v.0, positive (record { slot = w.0; rule = s.rule; held = w.1; heads = s.heads; entry = m }) v.1))
      (λ (m : s.entry ∈ s.rule.negatives). (
        suc v.0,
        negative (record { slot = w.0; rule = s.rule; held = w.1; heads = s.heads; entry = m })
            v.1,
      ))
      (Memᴰ.append_cases s.rule.positives s.among)))
      (reaches-cases (rules P) c k a t)

  pub reach-path : (a c : ℕ) → reach P a c ≡ true → (j : ℕ) × DependencyPath P a c j
  unfolding reach
  reach-path a c t = walk-path (length (rules P)) a c t

  pub path-reach : {a c j : ℕ} → DependencyPath P a c j → reach P a c ≡ true
  unfolding reach
  path-reach {a} {c} w =
      let s = settled (rules P) c in
      reaches-within (rules P) c s.0 (length (rules P)) a s.1 (along s.0 s.2 w)
    where
      -- one step back from what is reached
      back : (j : ℕ) → Settled (rules P) c j → (list : Rule → List ℕ)
          → ((r : Rule) (x : ℕ) → x ∈ list r → x ∈ entries r)
          → (a x : ℕ) → Depends P list a x → reaches (rules P) j x c ≡ true → reaches (rules P) j a c ≡ true
      back j S list among a x d t =
          let m = rules-of P d.slot d.rule d.held in
          subst (λ (z : ℕ). reaches (rules P) j z c ≡ true) d.heads
          (S d.rule m (reaches_step (rules P) c j d.rule x m (among d.rule x d.entry) t))

      along : (j : ℕ) → Settled (rules P) c j → {a k : ℕ} → DependencyPath P a c k → reaches (rules P) j a c ≡ true
      along j S {a} (here e) = reaches_here (rules P) c j a e
      along j S (positive {a = a} {x = x} d v) =
          back j S (λ r. r.positives) (λ r y m. Memᴰ.append_left r.negatives m) a x d (along j S v)
      along j S (negative {a = a} {x = x} d v) =
          back j S (λ r. r.negatives) (λ r y m. Memᴰ.append_right r.positives m) a x d (along j S v)

  -- Question 7 is answered rightly, both ways. Idea: a negative cycle, turned to start behind a negative step, is a
  -- walk from a negative entry back to its rule's head. The walk is found though it may be longer than there are rules: what
  -- is reached by one step more stops growing after so many steps (`settled`).

  pub cycle-found : NegativeCycle P → stratified P ≡ false
  unfolding stratified reach
  cycle-found c =
      let f = first-negative c.cycle in
      let s = f.step in
      ap not (any_of _ (rules P) s.rule (rules-of P s.slot s.rule s.held)
      (any_of (λ x. reaches (rules P) (length (rules P)) x s.rule.head) s.rule.negatives f.entry s.entry
      (path-reach (paths f.rest
      (subst (λ (z : ℕ). DependencyPath P c.atom z zero) (sym s.heads) f.before)))))

  pub found-cycle : stratified P ≡ false → NegativeCycle P
  unfolding stratified reach
  found-cycle t =
      let w = any_at (λ r. any (λ x. reaches (rules P) (length (rules P)) x r.head) r.negatives) (rules P)
      (not-false' _ t) in
      let v = any_at (λ x. reaches (rules P) (length (rules P)) x w.0.head) w.0.negatives w.2 in
      let h = rules-at P w.0 w.1 in
      let p = reach-path v.0 w.0.head v.2 in
      record {
        atom = w.0.head;
        further = p.0;
        cycle = negative (record { slot = h.0; rule = w.0; held = h.1; heads = refl; entry = v.1 }) p.1;
      }
    where
      not-false' : (b : Bool) → not b ≡ false → b ≡ true
      not-false' true u = refl
      not-false' false u = absurd (true≢false u)

  pub stratified-iff : (stratified P ≡ true) ↔ (NegativeCycle P → ⊥)
  stratified-iff = (
    (λ t c. clash t (cycle-found c)),
    (λ f. ⊎_elim (λ (t : stratified P ≡ true). t)
        (λ (t : stratified P ≡ false). absurd (f (found-cycle t))) (test (stratified P))),
  )

  pub negative-cycle? : Dec (NegativeCycle P)
  negative-cycle? = ⊎_elim
      (λ (t : stratified P ≡ true). no (stratified-iff.0 t))
      (λ (t : stratified P ≡ false). yes (found-cycle t))
      (test (stratified P))

-- Where every rule of Q is held by P, in whatever slot, a path by Q is one by P. So Q has no negative cycle where P has
-- none.
module _ (P Q : Program) (held : (s : ℕ) (r : Rule) → Held Q s r → (k : ℕ) × Held P k r) where
  held-step : (list : Rule → List ℕ) (a x : ℕ) → Depends Q list a x → Depends P list a x
  held-step list a x d =
      let w = held d.slot d.rule d.held in
      record { slot = w.0; rule = d.rule; held = w.1; heads = d.heads; entry = d.entry }

  fewer-path : {a c k : ℕ} → DependencyPath Q a c k → DependencyPath P a c k
  fewer-path (here e) = here e
  fewer-path (positive {a = a} {x = x} d w) = positive (held-step (λ r. r.positives) a x d) (fewer-path w)
  fewer-path (negative {a = a} {x = x} d w) = negative (held-step (λ r. r.negatives) a x d) (fewer-path w)

  pub fewer-cycle : NegativeCycle Q → NegativeCycle P
  fewer-cycle c = record { atom = c.atom; further = c.further; cycle = fewer-path c.cycle }

  pub fewer-stratified : stratified P ≡ true → stratified Q ≡ true
  fewer-stratified t = (stratified-iff Q).1 (λ c. (stratified-iff P).0 t (fewer-cycle c))
