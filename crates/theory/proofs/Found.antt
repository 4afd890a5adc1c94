-- The rounds of a layer, and the layers one after another: they end, in one way, and the layer is done then.
-- Assumes nothing.
use Prim.Native.Nat.{ℕ, zero, suc, ◌+◌, ◌<◌}
use native.Mathlib.Omega.{arith}
use mathlib.Core.Path.{◌≡◌, refl, sym, ◌∙◌, ap, subst, fun_ext}
use mathlib.Core.Logic.{⊎_elim}
use mathlib.Core.Bool.{true, false, true≢false}
use mathlib.Core.List.Memᴰ
use mathlib.Core.List.{List, [], ◌∷◌, Memᴰ}
use lib.ListN.{length}
use Rattle.theory.specs.Lists.{◌∈◌}
use Rattle.theory.specs.Rules.{active, all, Pages, Program, Rule}
use Rattle.theory.specs.Models.{AtomSet, next, Ordered, start, valid}
use Rattle.theory.specs.Dependencies.{NegativeCycle, Stratum}
use Rattle.theory.specs.Questions.{rules}
use Rattle.theory.specs.Rounds.{adds, again, final, FoundBelow, next_stratum, nothing, Rounds, RoundsOf, sweep}
use Rattle.theory.proofs.Lists.{clash, count, count-length, count-lt, test}
use Rattle.theory.proofs.Rules.{rules-of}
use Rattle.theory.proofs.Strata.{exact-strata, Strata, stratum-exists, stratum-unique}
use Rattle.theory.proofs.Pages.{strata-active}
use Rattle.theory.proofs.Fill.{filled_none, Filled}
use Rattle.theory.proofs.Rounds.{adds-some, adds-none-filled, sweep-keeps, sweep-stays}

-- The rules whose head is in.
abbrev pub heads_in : Program → AtomSet → ℕ
heads_in P M = count (λ r. M r.head) (rules P)

-- what is in is the head of a rule held
pub ordered-rule : (P : Program) (M : AtomSet) (xs : List ℕ) → Ordered P M xs → (x : ℕ) → x ∈ xs
    → (r : Rule) × Memᴰ r (rules P) × (r.head ≡ x) × (valid M r ≡ true)
ordered-rule P M [] start x m = absurd (Memᴰ.not-nil m)
ordered-rule P M (a ∷ xs) (next o fresh s r held e v earlier) x m = ⊎_elim
    (λ (q : x ≡ a). (r, rules-of P s r held, e ∙ sym q, v))
    (λ (m' : x ∈ xs). ordered-rule P M xs o x m') (Memᴰ.cases_cons m)

module _ (P : Program) (ℓ : ℕ → ℕ) (L : Strata P ℓ) where
  module _ (k : ℕ) where
    -- after a round that adds, more rules have their head in
    pub adds-more-heads :
        (M : AtomSet) → Filled P ℓ k M → adds ℓ k M P ≡ true → heads_in P M < heads_in P (sweep ℓ k M P)
    adds-more-heads M F h =
        let a = adds-some ℓ k P M h in
        let G = (sweep-stays P ℓ L k M F).founded in
        let w = ordered-rule P (sweep ℓ k M P) G.order G.ordered a.atom ((G.exactly a.atom).0 a.now) in
        count-lt (λ r. M r.head) (λ r. sweep ℓ k M P r.head) (rules P)
        (λ r m t. sweep-keeps ℓ k P M r.head t) w.0 w.1 (ap M w.2 ∙ a.was)
        (ap (sweep ℓ k M P) w.2 ∙ a.now)

    -- So the rounds of a layer end: each that adds brings one more rule's head in, and there are only so many rules
    -- (f leaves room for all).
    rounds-from : (f : ℕ) (M : AtomSet) → length (rules P) < f + heads_in P M → Filled P ℓ k M
        → (n : ℕ) × (N : AtomSet) × Rounds P ℓ k M n N
    rounds-from zero M room F = absurd (omega (arith, count-length (λ r. M r.head) (rules P)))
    rounds-from (suc f) M room F = ⊎_elim
        (λ (h : adds ℓ k M P ≡ true).
        (let w = rounds-from f (sweep ℓ k M P) (omega (arith, adds-more-heads M F h)) (sweep-stays P ℓ L k M F) in
        (suc w.0, w.1, again h w.2)))
        (λ (h : adds ℓ k M P ≡ false). (1, M, final h))
        (test (adds ℓ k M P))

    pub rounds-stop : (M : AtomSet) → Filled P ℓ k M → (n : ℕ) × (N : AtomSet) × Rounds P ℓ k M n N
    rounds-stop M F = rounds-from (suc (length (rules P))) M (omega arith) F

    -- nothing of a higher layer is added, and at the end the layer is done
    pub rounds-stay : {M N : AtomSet} {n : ℕ} → Rounds P ℓ k M n N → Filled P ℓ k M → Filled P ℓ k N
    rounds-stay (final h) F = F
    rounds-stay (again {M = M} h R) F = rounds-stay R (sweep-stays P ℓ L k M F)

    pub rounds-done : {M N : AtomSet} {n : ℕ} → Rounds P ℓ k M n N → Filled P ℓ k M → Filled P ℓ (suc k) N
    rounds-done (final {M = M} h) F = adds-none-filled P ℓ L k M F h
    rounds-done (again {M = M} h R) F = rounds-done R (sweep-stays P ℓ L k M F)

  -- When the layers below k have ended they are done, and nothing else is found.
  pub found-filled : {k : ℕ} {M : AtomSet} → FoundBelow P ℓ k M → Filled P ℓ k M
  found-filled nothing = filled_none P ℓ L
  found-filled (next_stratum {k = k} B R) = rounds-done k R (found-filled B)

  pub found-low : {k : ℕ} {M : AtomSet} → FoundBelow P ℓ k M → (a : ℕ) → M a ≡ true → ℓ a < k
  found-low nothing a t = absurd (true≢false (sym t))
  found-low (next_stratum {k = k} B R) a t = omega (arith, (rounds-stay k R (found-filled B)).low a t)

  pub found-exists : (k : ℕ) → (M : AtomSet) × FoundBelow P ℓ k M
  found-exists zero = (_, nothing)
  found-exists (suc k) = (let B = found-exists k in
      let R = rounds-stop k B.0 (found-filled B.1) in (R.1, next_stratum B.1 R.2))

-- Rounds and layers are determined.
module _ (P : Program) (ℓ : ℕ → ℕ) where
  pub rounds-same : {k n m : ℕ} {M N O : AtomSet} → Rounds P ℓ k M n N → Rounds P ℓ k M m O → (n ≡ m) × (N ≡ O)
  rounds-same (final h) (final i) = (refl, refl)
  rounds-same (final h) (again i S) = absurd (clash i h)
  rounds-same (again h R) (final i) = absurd (clash h i)
  rounds-same (again h R) (again i S) = (let w = rounds-same R S in (ap suc w.0, w.1))

  pub found-same : {k : ℕ} {M N : AtomSet} → FoundBelow P ℓ k M → FoundBelow P ℓ k N → M ≡ N
  found-same nothing nothing = refl
  found-same (next_stratum {k = k} {n = n} {N = N} B R) (next_stratum C S) =
      (rounds-same (subst (λ (Z : AtomSet). Rounds P ℓ k Z n N) (found-same B C) R) S).1

module _ (B : Pages) where
  abbrev P : Program
  P = active B

  -- Without a negative cycle each layer has its number of rounds, and only one.
  pub rounds-exists : (NegativeCycle (all B) → ⊥) → (k : ℕ) → (n : ℕ) × RoundsOf B k n
  rounds-exists free k =
      let exact : (a : ℕ) → Stratum (all B) a (stratum-exists (all B) free a).0 =
      λ a. (stratum-exists (all B) free a).1 in
      let L = strata-active B _ (exact-strata (all B) _ exact) in
      let F = found-exists P _ L k in
      let R = rounds-stop P _ L k F.0 (found-filled P _ L F.1) in
      (R.0, record { stratum = _; exact = exact; before = F.0; after = R.1; below = F.1; rounds = R.2 })

  pub rounds-unique : (k n m : ℕ) → RoundsOf B k n → RoundsOf B k m → n ≡ m
  rounds-unique k n m R S =
      let same : R.stratum ≡ S.stratum =
      fun_ext (λ a. stratum-unique (all B) a (R.stratum a) (S.stratum a) (R.exact a) (S.exact a)) in
      let F = subst (λ (z : ℕ → ℕ). FoundBelow P z k R.before) same R.below in
      let W = subst (λ (z : ℕ → ℕ). Rounds P z k R.before n R.after) same R.rounds in
      let e = found-same P S.stratum F S.below in
      (rounds-same P S.stratum (subst (λ (Z : AtomSet). Rounds P S.stratum k Z n R.after) e W) S.rounds).0
