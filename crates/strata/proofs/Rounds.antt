-- What the rounds over the slots keep, and what it comes to in the end. Assumes nothing.
-- The idea (Bellman and Ford): each number is the weight of some path, and after k rounds at least that of every walk
-- of k steps. In a round that raises none the numbers are strata, and so exact. Without a negative cycle no path weighs
-- more than there are rules, and no walk needs more steps: a number above S, or a raise after S rounds, shows a cycle.
use Prim.Native.Nat.{ℕ, ◌+◌, ◌≤◌, ◌<◌}
use native.Mathlib.Omega.{arith}
use native.Mathlib.Decide.{ℕ_discrete}
use mathlib.Core.Path.{◌≡◌, refl, sym, ◌∙◌, ap, ap₂, subst}
use mathlib.Core.Logic.{⊎_elim}
use mathlib.Core.Bool.{Bool, true, false, ◌||◌, true≢false}
use mathlib.Core.List.{List}
use mathlib.Core.Option.{Option, none, some}
use lib.ListN.{length, get_or, length-set}
use borrow.Author.Count.{below_more}
use Rattle.theory.specs.Rules.{Rule, Program, Held}
use Rattle.theory.specs.Dependencies.{DependencyPath, here, NegativeCycle, Stratum}
use Rattle.theory.specs.Questions.{rules}
use Rattle.theory.proofs.Questions.{held_below}
use Rattle.theory.proofs.Rules.{held-unique}
use Rattle.theory.proofs.Cycles.{negative-cycle?}
use Rattle.theory.proofs.Strata.{few-negatives, Strata, strata-exact}
use Rattle.table.specs.Sets.{number}
use Rattle.table.proofs.Members.{number_same, number-other}
use Rattle.strata.specs.Needed.{Attained, Guided, needed, Raised}
use Rattle.strata.proofs.Numbers.{needed-enough, Reached, needed-reached}
use Rattle.strata.proofs.Walks.{Entry, plain, denied, Step, after, Walk, stay, step, everywhere, short-walk}

-- No walk of at most k steps weighs more than its start's number.
abbrev pub Covers : Program → ℕ → (ℕ → ℕ) → Type 0
Covers P k ℓ = (a c n j : ℕ) → n ≤ k → Walk P everywhere a c n j → j ≤ ℓ a

-- The same of the walks that begin with a step of the rule r and go on for at most k steps.
abbrev pub Visited : Program → ℕ → (ℕ → ℕ) → Rule → Type 0
Visited P k ℓ r =
    (x w : ℕ) → Entry r x w → (c n j : ℕ) → n ≤ k → Walk P everywhere x c n j → w + j ≤ ℓ r.head

-- The rule r raises nothing.
abbrev pub Resting : (ℕ → ℕ) → Rule → Type 0
Resting ℓ r = (x w : ℕ) → Entry r x w → w + ℓ x ≤ ℓ r.head

-- After k rounds over a program of at most S rules. More than S rounds are made only if round S + 1 raised a number.
pub record Rounds (P : Program) (S k : ℕ) (ℓ : ℕ → ℕ) : Type 0 where
  pub attained : Attained P ℓ
  pub covers : Covers P k ℓ
  pub late : S < k → NegativeCycle P

-- After k rounds and i slots of the next, in which a number was raised or none was. The next round comes to the slots
-- `at 0`, `at 1`, ..: in which order does not matter.
pub record Slots (P : Program) (at : ℕ → ℕ) (S k i : ℕ) (ℓ : ℕ → ℕ) (raised : Bool) : Type 0 where
  pub attained : Attained P ℓ
  pub covers : Covers P k ℓ
  pub visited : (j : ℕ) (r : Rule) → j < i → Held P (at j) r → Visited P k ℓ r
  pub resting : raised ≡ false → (j : ℕ) (r : Rule) → j < i → Held P (at j) r → Resting ℓ r
  pub late : raised ≡ true → S ≤ k → NegativeCycle P

-- The first i places of a round have come to every slot.
abbrev pub ComesToAll : Program → (ℕ → ℕ) → ℕ → Type 0
ComesToAll P at i = (s : ℕ) → s < length P → (j : ℕ) × (j < i) × (at j ≡ s)

-- A path from a rule's head that weighs what the rule needs.
pub needed-path :
    (P : Program) (ℓ : ℕ → ℕ) → Attained P ℓ → (s : ℕ) (r : Rule) → Held P s r
    → (c : ℕ) × DependencyPath P r.head c (needed ℓ (some r))
needed-path P ℓ A s r h = ⊎_elim
    (λ (e : needed ℓ (some r) ≡ 0). (r.head, rw e (here refl)))
    (λ (t : Reached ℓ r (needed ℓ (some r))). (
    let v = A t.atom in
    let d : Step P r.head t.atom t.weight =
    record { slot = s; rule = r; held = h; heads = refl; entry = t.entry } in
    (v.0, rw t.sum (after d v.1))))
    (needed-reached ℓ r)

-- The number of one atom raised: to n at a, and as it was elsewhere.
pub record Higher (ℓ m : ℕ → ℕ) (a n : ℕ) : Type 0 where
  pub there : m a ≡ n
  pub elsewhere : (x : ℕ) → (x ≡ a → ⊥) → m x ≡ ℓ x
  pub more : ℓ a < n

pub higher-up : (ℓ m : ℕ → ℕ) (a n : ℕ) → Higher ℓ m a n → (x : ℕ) → ℓ x ≤ m x
higher-up ℓ m a n H x = elim (ℕ_discrete x a) [
  | yes e ↦ omega (arith, ap ℓ e, ap m e, H.there, H.more)
  | no e ↦ omega (arith, H.elsewhere x e)
]

pub higher-attained :
    (P : Program) (ℓ m : ℕ → ℕ) (a n : ℕ) → Higher ℓ m a n → Attained P ℓ → (c : ℕ) × DependencyPath P a c n
    → Attained P m
higher-attained P ℓ m a n H A v x = elim (ℕ_discrete x a) [
  | yes e ↦ (v.0, subst (λ (z : ℕ). DependencyPath P z v.0 (m z)) (sym e) (rw H.there v.1))
  | no e ↦ ((A x).0, rw (H.elsewhere x e) (A x).1)
]

-- What the code raised, by the rule r.
pub raised-higher :
    (xs ys : List ℕ) (a n : ℕ) (r : Rule) → r.head ≡ a → a < length xs → n ≡ needed (number xs) (some r)
    → Raised xs a n ys true → Higher (number xs) (number ys) r.head (needed (number xs) (some r))
raised-higher xs ys a n r q l same R =
    let t = R.higher refl in
    record {
      there = ap₂ number t.1 q ∙ number_same xs a n l ∙ same;
      elsewhere = λ x d. ap (λ zs. number zs x) t.1 ∙ number-other xs a n x (λ z. d (z ∙ sym q));
      more = omega (arith, t.0, same, ap (number xs) q);
    }

-- Numbers that any slot raises, in between rounds: they stay weights of paths, and rounds have covered what they had.
module _ (P : Program) where
  pub guided-start : (xs : List ℕ) → Attained P (number xs) → Guided P xs xs
  guided-start xs A = record { attained = A; up = λ a. omega arith; long = refl }

  pub guided-next :
      (xs ys zs : List ℕ) → Guided P xs ys → (s a n : ℕ) (flag : Bool) → n ≡ needed (number ys) (get_or P s none)
      → ((r : Rule) → Held P s r → (r.head ≡ a) × (a < length ys)) → Raised ys a n zs flag → Guided P xs zs
  guided-next xs ys zs G s a n false e heads R = rw (R.kept refl).1 G
  guided-next xs ys zs G s a n true e heads R = go (get_or P s none) refl
    where
      go : (o : Option Rule) → get_or P s none ≡ o → Guided P xs zs
      go none h = absurd (omega (arith, (R.higher refl).0, e, ap (needed (number ys)) h))
      go (some r) h =
          let H = raised-higher ys zs a n r (heads r h).0 (heads r h).1 (e ∙ ap (needed (number ys)) h) R in
          record {
            attained = higher-attained P (number ys) (number zs) r.head _ H G.attained
                (needed-path P (number ys) G.attained s r h);
            up = λ x. omega (arith, G.up x, higher-up (number ys) (number zs) r.head _ H x);
            long = ap length (R.higher refl).1 ∙ length-set ys a n ∙ G.long;
          }

  pub rounds-guided : (S k : ℕ) (xs ys : List ℕ) → Rounds P S k (number xs) → Guided P xs ys → Rounds P S k (number ys)
  rounds-guided S k xs ys R G = record {
    attained = G.attained;
    covers = λ a c n j l v. omega (arith, G.up a, R.covers a c n j l v);
    late = R.late;
  }

module _ (P : Program) (S : ℕ) (few : length (rules P) ≤ S) where
  -- Without a negative cycle numbers that cover walks of S steps cover all paths.
  all-covered : (k : ℕ) (ℓ : ℕ → ℕ) → Covers P k ℓ → S ≤ k → (NegativeCycle P → ⊥)
      → {a c j : ℕ} → DependencyPath P a c j → j ≤ ℓ a
  all-covered k ℓ C l free {a} {c} {j} v =
      let w = short-walk P free v in
      C a c w.0 j (omega (arith, w.1)) w.2

  -- A path that weighs more than there are rules, or more than numbers that cover walks of S steps allow: a cycle.
  pub heavy : {a c j : ℕ} → DependencyPath P a c j → S < j → NegativeCycle P
  heavy v l = elim (negative-cycle? P) [
    | yes c ↦ c
    | no free ↦ absurd (omega (arith, few-negatives P free v))
  ]

  uncovered : (k : ℕ) (ℓ : ℕ → ℕ) → Covers P k ℓ → S ≤ k → {a c j : ℕ} → DependencyPath P a c j → ℓ a < j
      → NegativeCycle P
  uncovered k ℓ C l v i = elim (negative-cycle? P) [
    | yes c ↦ c
    | no free ↦ absurd (omega (arith, all-covered k ℓ C l free v))
  ]

  -- The start: each number is 0.
  pub rounds-start : (ℓ : ℕ → ℕ) → ((a : ℕ) → ℓ a ≡ 0) → Rounds P S 0 ℓ
  rounds-start ℓ z = record {
    attained = λ a. (a, rw (z a) (here refl));
    covers = λ a c n j l v. none-heavy l v;
    late = λ l. absurd (omega arith);
  }
    where
      none-heavy : {a c n j : ℕ} → n ≤ 0 → Walk P everywhere a c n j → j ≤ ℓ a
      none-heavy l (stay e) = omega arith
      none-heavy l (step o d v q) = absurd (omega arith)

  module _ (at : ℕ → ℕ) (k : ℕ) (ℓ : ℕ → ℕ) where
    pub slots-start : Rounds P S k ℓ → Slots P at S k 0 ℓ false
    slots-start R = record {
      attained = R.attained;
      covers = R.covers;
      visited = λ s r l. absurd (omega arith);
      resting = λ t s r l. absurd (omega arith);
      late = λ t. absurd (true≢false (sym t));
    }

    -- The end of a round that raised a number.
    pub slots-over : (i : ℕ) → ComesToAll P at i → Slots P at S k i ℓ true → Rounds P S (k + 1) ℓ
    slots-over i l T = record {
      attained = T.attained;
      covers = λ a c n j m v. further m v;
      late = λ m. T.late refl (omega arith);
    }
      where
        further : {a c n j : ℕ} → n ≤ k + 1 → Walk P everywhere a c n j → j ≤ ℓ a
        further m (stay e) = omega arith
        further m (step {x = x} {c = c} {w = w} {n = n} {j = j} o d v q) =
            let y = l d.slot (held_below P d.slot d.rule d.held) in
            let there = subst (λ (z : ℕ). Held P z d.rule) (sym y.2) d.held in
            omega (
              arith,
              ap ℓ d.heads,
              T.visited y.0 d.rule y.1 there x w d.entry c n j (omega arith) v,
            )

    -- The end of a round that raised none: the numbers are the strata.
    pub slots-rest : (i : ℕ) → ComesToAll P at i → Slots P at S k i ℓ false → (a : ℕ) → Stratum P a (ℓ a)
    slots-rest i l T a = strata-exact P ℓ at_rest a (T.attained a).0 (T.attained a).1
      where
        below : (s : ℕ) (r : Rule) → Held P s r → Resting ℓ r
        below s r h =
            let y = l s (held_below P s r h) in
            T.resting refl y.0 r y.1 (subst (λ (z : ℕ). Held P z r) (sym y.2) h)

        at_rest : Strata P ℓ
        at_rest = record {
          up = λ s r h x m. omega (arith, below s r h x 0 (plain m));
          over = λ s r h x m. omega (arith, below s r h x 1 (denied m));
        }

    -- A number needed that is above S.
    pub slots-passed :
        (i : ℕ) (raised : Bool) → Slots P at S k i ℓ raised → S < needed ℓ (get_or P (at i) none) → NegativeCycle P
    slots-passed i raised T l = go (get_or P (at i) none) refl l
      where
        go : (o : Option Rule) → get_or P (at i) none ≡ o → S < needed ℓ o → NegativeCycle P
        go none e l = absurd (omega arith)
        go (some r) e l = heavy (needed-path P ℓ T.attained (at i) r e).1 l

    -- The next slot, at which nothing is raised, or the number of its rule's head.
    module _ (i : ℕ) (raised : Bool) (T : Slots P at S k i ℓ raised) where
      slot_kept :
          ((r : Rule) → Held P (at i) r → needed ℓ (some r) ≤ ℓ r.head) → Slots P at S k (i + 1) ℓ raised
      slot_kept enough = record {
        attained = T.attained;
        covers = T.covers;
        visited = λ s r l. below_more (λ j. Held P (at j) r → Visited P k ℓ r) i (λ z j. T.visited z r j)
            (λ h x w t c n j m v. omega (arith, rests r h x w t, T.covers x c n j m v)) s l;
        resting = λ t s r l. below_more (λ j. Held P (at j) r → Resting ℓ r) i (λ z j. T.resting t z r j)
            (rests r) s l;
        late = T.late;
      }
        where
          rests : (r : Rule) → Held P (at i) r → Resting ℓ r
          rests r h x w t = omega (arith, enough r h, needed-enough ℓ r x w t)

      slot-raised :
          (m : ℕ → ℕ) (q : Rule) → Held P (at i) q → Higher ℓ m q.head (needed ℓ (some q))
          → Slots P at S k (i + 1) m true
      slot-raised m q held H = record {
        attained = higher-attained P ℓ m q.head _ H T.attained (needed-path P ℓ T.attained (at i) q held);
        covers = λ a c n j l v. omega (arith, up a, T.covers a c n j l v);
        visited = λ s r l. below_more (λ j. Held P (at j) r → Visited P k m r) i
            (λ y z h x w t c n j l v. omega (arith, up r.head, T.visited y r z h x w t c n j l v))
            (λ h x w t c n j l v. omega (
              arith,
              T.covers x c n j l v,
              needed-enough ℓ r x w t,
              H.there,
              ap (λ (p : Rule). m p.head) (held-unique P (at i) q r held h),
              ap (λ (p : Rule). needed ℓ (some p)) (held-unique P (at i) q r held h),
            )) s l;
        resting = λ t. absurd (true≢false t);
        late = λ t l. uncovered k ℓ T.covers l (needed-path P ℓ T.attained (at i) q held).1 H.more;
      }
        where
          up : (x : ℕ) → ℓ x ≤ m x
          up = higher-up ℓ m q.head _ H

  -- The next slot, in the words of the code: `a` is its rule's head, if it holds one.
  pub slot_next :
      (at : ℕ → ℕ) (k i : ℕ) (xs ys : List ℕ) (raised flag : Bool) (a n : ℕ) → Slots P at S k i (number xs) raised
      → n ≡ needed (number xs) (get_or P (at i) none)
      → ((r : Rule) → Held P (at i) r → (r.head ≡ a) × (a < length xs))
      → Raised xs a n ys flag → Slots P at S k (i + 1) (number ys) (flag || raised)
  slot_next at k i xs ys raised false a n T e heads R =
      let t = R.kept refl in
      subst (λ (zs : List ℕ). Slots P at S k (i + 1) (number zs) raised) (sym t.1)
      (slot_kept at k (number xs) i raised T (λ r h.
      omega (arith, t.0, e, ap (needed (number xs)) h, ap (number xs) (heads r h).0)))
  slot_next at k i xs ys raised true a n T e heads R = go (get_or P (at i) none) refl
    where
      go : (o : Option Rule) → get_or P (at i) none ≡ o → Slots P at S k (i + 1) (number ys) true
      go none h = absurd (omega (arith, (R.higher refl).0, e, ap (needed (number xs)) h))
      go (some r) h =
          slot-raised at k (number xs) i raised T (number ys) r h
          (raised-higher xs ys a n r (heads r h).0 (heads r h).1 (e ∙ ap (needed (number xs)) h) R)
