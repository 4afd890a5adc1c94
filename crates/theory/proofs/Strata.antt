-- Strata: a program has them if and only if it has no negative cycle, and then each atom's exact stratum exists; two
-- admissible models of a program with strata agree. Assumes nothing.
use Prim.Native.Nat.{ℕ, zero, suc, ◌+◌, ◌≤◌, ◌<◌}
use native.Mathlib.Omega.{arith}
use mathlib.Core.Path.{◌≡◌, refl, sym, ◌∙◌, ap, subst}
use mathlib.Core.Logic.{⊎_elim, ◌↔◌}
use mathlib.Core.Bool.{Bool, true, false, ◌&&◌}
use mathlib.Core.List.Memᴰ
use mathlib.Core.List.{List, [], ◌∷◌}
use lib.ListN.{length}
use Rattle.theory.specs.Lists.{◌∈◌, any}
use Rattle.theory.specs.Rules.{Held, Program, Rule}
use Rattle.theory.specs.Models.{Admissible, AtomSet, Founded, next, Ordered, start, valid}
use Rattle.theory.specs.Dependencies.{DependencyPath, here, negative, NegativeCycle, Negatively, positive}
use Rattle.theory.specs.Dependencies.{Stratum}
use Rattle.theory.specs.Questions.{rules}
use Rattle.theory.proofs.Lists.{and_l, and-of, and_r, any_at, any_of, clash, count, count-le, count-length}
use Rattle.theory.proofs.Lists.{count-lt, le-or-lt, same_test, test, unless}
use Rattle.theory.proofs.Rules.{rules-at, rules-of, valid-negative, valid-of}
use Rattle.theory.proofs.Cycles.{first-negative, path-reach, paths, reach, reach-path}

-- Strata: a number for each atom, such that no positive entry of a rule lies above its head and each negative entry lies
-- below it.
pub record Strata (P : Program) (ℓ : ℕ → ℕ) : Type 0 where
  pub up : (s : ℕ) (r : Rule) → Held P s r → (x : ℕ) → x ∈ r.positives → ℓ x ≤ ℓ r.head
  pub over : (s : ℕ) (r : Rule) → Held P s r → (x : ℕ) → x ∈ r.negatives → ℓ x < ℓ r.head

-- M is closed as far as the heads of strata below k go.
abbrev pub ClosedBelow : Program → (ℕ → ℕ) → ℕ → AtomSet → Type 0
ClosedBelow P ℓ k M = (s : ℕ) (r : Rule) → Held P s r → ℓ r.head < k → valid M r ≡ true → M r.head ≡ true

module _ (P : Program) (ℓ : ℕ → ℕ) (L : Strata P ℓ) where
  -- At most one admissible model: by induction on the stratum, and inside it on the founded order.

  -- M's order, up to the stratum k, lies in N, where the two agree below k.
  pub order-within :
      (M N : AtomSet) (k : ℕ) → ClosedBelow P ℓ (suc k) N → ((y : ℕ) → ℓ y < k → M y ≡ N y)
      → (xs : List ℕ) → Ordered P M xs → (x : ℕ) → x ∈ xs → ℓ x ≤ k → N x ≡ true
  order-within M N k c below [] start x m h = absurd (Memᴰ.not-nil m)
  order-within M N k c below (a ∷ xs) (next o fresh s r held e v earlier) x m h =
      ⊎_elim
      (λ (q : x ≡ a).
      let low : ℓ r.head ≤ k = omega (arith, ap ℓ (e ∙ sym q)) in
      cc (c s r held (omega arith) (valid-of N r
      (λ p mp. order-within M N k c below xs o p (earlier p mp) (omega (arith, L.up s r held p mp)))
      (λ n mn. sym (below n (omega (arith, L.over s r held n mn))) ∙ valid-negative M r v n mn))))
      (λ (m' : x ∈ xs). order-within M N k c below xs o x m' h)
      (Memᴰ.cases_cons m)

  -- Two founded sets that are closed below the stratum j agree below it.
  pub agree-below :
      (M N : AtomSet) → Founded P M → Founded P N → (j : ℕ) → ClosedBelow P ℓ j M → ClosedBelow P ℓ j N
      → (x : ℕ) → ℓ x < j → M x ≡ N x
  agree-below M N A B zero c d x h = absurd (omega arith)
  agree-below M N A B (suc k) c d x h =
      let below : (y : ℕ) → ℓ y < k → M y ≡ N y =
      agree-below M N A B k (λ s r i l. c s r i (omega arith)) (λ s r i l. d s r i (omega arith)) in
      same_test (M x) (N x)
      (λ t. order-within M N k d below A.order A.ordered x ((A.exactly x).0 t) (omega arith))
      (λ t. order-within N M k c
      (λ y hy. sym (below y hy)) B.order B.ordered x ((B.exactly x).0 t) (omega arith))

  -- Two admissible models agree. Idea: where they agree below a stratum, the negative entries of its rules are the same
  -- in both. So, along the founded order of the one, each atom's rule is valid in the other, which is closed and
  -- has the atom too.
  pub model-unique : (M N : AtomSet) → Admissible P M → Admissible P N → (x : ℕ) → M x ≡ N x
  model-unique M N A B x =
      agree-below M N A.founded B.founded (suc (ℓ x)) (λ s r h l. A.closed s r h)
      (λ s r h l. B.closed s r h) x
      (omega arith)

  -- k negative steps go down at least k strata, so none leads back.

  pub path-falls : {a c k : ℕ} → DependencyPath P a c k → k + ℓ c ≤ ℓ a
  path-falls (here e) = omega (arith, ap ℓ e)
  path-falls (positive w v) = omega
      (arith, path-falls v, ap ℓ w.heads, L.up w.slot w.rule w.held _ w.entry)
  path-falls (negative w v) =
      omega (arith, path-falls v, ap ℓ w.heads, L.over w.slot w.rule w.held _ w.entry)

  pub strata-acyclic : NegativeCycle P → ⊥
  strata-acyclic c = omega (arith, path-falls c.cycle)

  -- Strata of which each is reached by a path are exact.
  pub strata-exact : (a c : ℕ) → DependencyPath P a c (ℓ a) → Stratum P a (ℓ a)
  strata-exact a c w = record { end = c; path = w; most = λ z j v. omega (arith, path-falls v) }

-- Exact strata are strata.
pub exact-strata : (P : Program) (ℓ : ℕ → ℕ) → ((a : ℕ) → Stratum P a (ℓ a)) → Strata P ℓ
exact-strata P ℓ exact = record {
  up = λ s r h x m. (exact r.head).most (exact x).end (ℓ x)
      (positive (record { slot = s; rule = r; held = h; heads = refl; entry = m }) (exact x).path);
  over = λ s r h x m. (exact r.head).most (exact x).end (suc (ℓ x))
      (negative (record { slot = s; rule = r; held = h; heads = refl; entry = m }) (exact x).path);
}

module _ (P : Program) where
  -- How many rules lie on paths from a: no rule's entry has more than its head, a negative entry has fewer.
  pub rules-below : ℕ → ℕ
  rules-below a = count (λ r. reach P a r.head) (rules P)

  pub rules-below-bound : (a : ℕ) → rules-below a ≤ length (rules P)
  unfolding rules-below
  rules-below-bound a = count-length (λ r. reach P a r.head) (rules P)

  onward : (a x j : ℕ) → DependencyPath P a x j → (r : Rule) → reach P x r.head ≡ true → reach P a r.head ≡ true
  onward a x j w r t = path-reach P (paths w (reach-path P x r.head t).1)

  pub acyclic-strata : (NegativeCycle P → ⊥) → Strata P rules-below
  unfolding rules-below
  acyclic-strata free = record {
    up = λ s r h x m.
        let w : DependencyPath P r.head x 0 =
        positive (record { slot = s; rule = r; held = h; heads = refl; entry = m }) (here refl) in
        count-le (λ q. reach P x q.head) (λ q. reach P r.head q.head) (rules P)
        (λ q i t. onward r.head x 0 w q t);
    over = λ s r h x m.
        let d : Negatively P r.head x = record { slot = s; rule = r; held = h; heads = refl; entry = m } in
        count-lt (λ q. reach P x q.head) (λ q. reach P r.head q.head) (rules P)
        (λ q i t. onward r.head x 1 (negative d (here refl)) q t) r (rules-of P s r h)
        (unless _ (λ t. (
        let v = reach-path P x r.head t in
        free (record { atom = r.head; further = v.0; cycle = negative d v.1 }))))
        (path-reach P (here refl));
  }

  -- A program has strata if and only if it has no negative cycle. Idea: by strata a negative step goes down and no step
  -- goes up, so no cycle has a negative step. Without such a cycle, count for each atom the rules on paths from it: an
  -- entry has no more than its head, and a negative entry has fewer, since no path from it leads back to its own rule.
  pub strata-iff : ((ℓ : ℕ → ℕ) × Strata P ℓ) ↔ (NegativeCycle P → ⊥)
  strata-iff = ((λ w. strata-acyclic P w.0 w.1), (λ free. (rules-below, acyclic-strata free)))

  -- Without a negative cycle no path has more negative steps than there are rules.
  pub few-negatives : (NegativeCycle P → ⊥) → {a c k : ℕ} → DependencyPath P a c k → k ≤ length (rules P)
  few-negatives free {a} w =
      omega (arith, path-falls P rules-below (acyclic-strata free) w, rules-below-bound a)

  -- A path from a with k negative steps, as a test.
  descends : ℕ → ℕ → Bool
  descends zero a = true
  descends (suc k) a = any (λ r. reach P a r.head && any (descends k) r.negatives) (rules P)

  descends-path : (k a : ℕ) → descends k a ≡ true → (c : ℕ) × DependencyPath P a c k
  unfolding descends
  descends-path zero a t = (a, here refl)
  descends-path (suc k) a t =
      let w = any_at (λ r. reach P a r.head && any (descends k) r.negatives) (rules P) t in
      let r = w.0 in
      let v = any_at (descends k) r.negatives (and_r (reach P a r.head) _ w.2) in
      let h = rules-at P r w.1 in
      let rest = descends-path k v.0 v.2 in
      let down : DependencyPath P r.head rest.0 (suc k) =
      negative (record { slot = h.0; rule = r; held = h.1; heads = refl; entry = v.1 }) rest.1 in
      let to = reach-path P a r.head (and_l (reach P a r.head) _ w.2) in
      cut (suc k) (paths to.1 down) (omega arith)
    where
      -- a path with at least k negative steps has a beginning with k
      cut : (k : ℕ) {a c j : ℕ} → DependencyPath P a c j → k ≤ j → (z : ℕ) × DependencyPath P a z k
      cut zero {a} w l = (a, here refl)
      cut (suc k) (here e) l = absurd (omega arith)
      cut (suc k) (positive p w) l = let v = cut (suc k) w l in (v.0, positive p v.1)
      cut (suc k) (negative p w) l = let v = cut k w (omega arith) in (v.0, negative p v.1)

  path-descends : (k a c : ℕ) → DependencyPath P a c k → descends k a ≡ true
  unfolding descends
  path-descends zero a c w = refl
  path-descends (suc k) a c w =
      let f = first-negative w in
      let s = f.step in
      any_of _ (rules P) s.rule (rules-of P s.slot s.rule s.held) (and-of _ _
      (path-reach P (subst (λ (z : ℕ). DependencyPath P a z zero) (sym s.heads) f.before))
      (any_of (descends k) s.rule.negatives f.entry s.entry (path-descends k f.entry c f.rest)))

  -- Without a negative cycle each atom has its exact stratum, and only one. Idea: no path has more negative steps than
  -- there are rules; so the greatest number of steps that a path has is found by trying from there downwards.

  search-down : (a n : ℕ) → ((k : ℕ) → descends k a ≡ true → k ≤ n) → (k : ℕ) × Stratum P a k
  search-down a zero high =
      (zero, record { end = a; path = here refl; most = λ c j w. high j (path-descends j a c w) })
  search-down a (suc n) high = ⊎_elim
      (λ (t : descends (suc n) a ≡ true). (
      let w = descends-path (suc n) a t in
      (suc n, record { end = w.0; path = w.1; most = λ c j v. high j (path-descends j a c v) })))
      (λ (t : descends (suc n) a ≡ false). search-down a n (λ k u. ⊎_elim
      (λ (l : k ≤ n). l)
      (λ (l : n < k). (
      let e : k ≡ suc n = omega (arith, high k u) in
      absurd (clash (subst (λ (z : ℕ). descends z a ≡ true) e u) t)))
      (le-or-lt k n)))
      (test (descends (suc n) a))

  pub stratum-exists : (NegativeCycle P → ⊥) → (a : ℕ) → (k : ℕ) × Stratum P a k
  stratum-exists free a = search-down a (length (rules P)) (λ k t. few-negatives free (descends-path k a t).1)

  pub stratum-unique : (a j k : ℕ) → Stratum P a j → Stratum P a k → j ≡ k
  stratum-unique a j k S T = omega (arith, S.most T.end k T.path, T.most S.end j S.path)

-- A path with the most negative steps goes through all strata below that of its start.
module _ (P : Program) (ℓ : ℕ → ℕ) (exact : (a : ℕ) → Stratum P a (ℓ a)) where
  along : {a c k : ℕ} → DependencyPath P a c k → ℓ a ≡ k → (j : ℕ) → j ≤ k → (b : ℕ) × (ℓ b ≡ j)
  along {a} (here e) t j l = (a, omega arith)
  along (positive {x = x} w v) t j l =
      along v (omega (
        arith,
        ap ℓ w.heads,
        (exact-strata P ℓ exact).up w.slot w.rule w.held _ w.entry,
        (exact x).most _ _ v,
      )) j l
  along {a} (negative {x = x} {k = k} w v) t j l = ⊎_elim
      (λ (i : j ≤ k). along v
      (omega (
        arith,
        ap ℓ w.heads,
        (exact-strata P ℓ exact).over w.slot w.rule w.held _ w.entry,
        (exact x).most _ _ v,
      )) j i)
      (λ (i : k < j). (a, omega arith))
      (le-or-lt j k)

module _ (P : Program) (free : NegativeCycle P → ⊥) where
  -- Strata have no gap: below the stratum of an atom each number is that of some atom.
  pub stratum-below : (a k j : ℕ) → Stratum P a k → j ≤ k → (b : ℕ) × Stratum P b j
  stratum-below a k j S l =
      let exact : (c : ℕ) → Stratum P c (stratum-exists P free c).0 = λ c. (stratum-exists P free c).1 in
      let b = along P _ exact S.path (stratum-unique P a _ k (exact a) S) j l in
      (b.0, subst (Stratum P b.0) b.1 (exact b.0))

  pub lowest-stratum : (b : ℕ) × Stratum P b 0
  lowest-stratum = (let w = stratum-exists P free 0 in stratum-below 0 w.0 0 w.1 (omega arith))
