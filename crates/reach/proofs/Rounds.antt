-- A round over the edges brings in only atoms that are reached, and one that brings in none shows that all are in.
-- Assumes nothing.
use Prim.Native.Nat.{ℕ, zero, suc, ◌+◌, ◌≤◌, ◌<◌, min}
use native.Mathlib.Omega.{arith}
use mathlib.Core.Path.{◌≡◌, refl, sym, ◌∙◌, ap, subst}
use mathlib.Core.Logic.{◌⊎◌, inl, inr, ⊎_elim}
use mathlib.Core.Bool.{Bool, true, false, ◌||◌, true≢false}
use mathlib.Core.List.{List, [], ◌∷◌}
use lib.Dec.{eqb}
use lib.ListN.{length, get_or, set, replicate}
use lib.Seq.{get_or-set_other}
use Rattle.theory.specs.Lists.{Steps, one}
use Rattle.theory.proofs.Lists.{eqb-eq, eqb_of, eqb-not, or_cases, or_l, or_r, or-false-l, or-false-r}
use Rattle.theory.proofs.Lists.{clash, le-or-lt, test}
use Rattle.theory.specs.Limits.{document}
use Rattle.table.specs.Sets.{member, one_if}
use Rattle.reach.specs.Edges.{Edge, Reached}
use Rattle.reach.specs.Rounds.{source, Marks, Followed, outside, OnlyReached, AllFollowed, Round}
use Rattle.reach.proofs.Steps.{steps_on, steps-in}

-- The start is a source; any other atom is one if it is in the set.
module _ (start : ℕ) (flags : List Bool) (a : ℕ) where
  pub source-start : a ≡ start → true ≡ source start flags a
  source-start e = sym (or_l (eqb a start) (member flags a) (eqb_of a start e))

  pub source-else : (b : Bool) → (a ≡ start → ⊥) → b ≡ member flags a → b ≡ source start flags a
  source-else b n e = e ∙ ap (λ t. t || member flags a) (sym (eqb-not a start n))

-- An atom that comes in leaves one fewer outside.
outside_set :
    (flags : List Bool) (c : ℕ) → c < length flags → member flags c ≡ false
    → outside (set flags c true) + 1 ≤ outside flags
unfolding outside
outside_set [] c l t = absurd (omega arith)
outside_set (true ∷ flags) zero l t = absurd (true≢false t)
outside_set (false ∷ flags) zero l t = omega arith
outside_set (true ∷ flags) (suc c) l t = outside_set flags c (omega arith) t
outside_set (false ∷ flags) (suc c) l t = omega (arith, outside_set flags c (omega arith) t)

one_if-or : (b d : Bool) → one_if (b || d) ≤ one_if b + one_if d
one_if-or true true = omega arith
one_if-or true false = omega arith
one_if-or false true = omega arith
one_if-or false false = omega arith

-- What an edge that is followed may do to the set.
module _ (start a c : ℕ) (before after : List Bool) where
  followed-fewer : (b : Bool) → Followed start a c before after b → outside after + one_if b ≤ outside before
  followed-fewer true f = rw f.grown (outside_set before c f.inside f.new)
  followed-fewer false f = omega (arith, ap outside f.same)

  followed_same : (b : Bool) → Followed start a c before after b → b ≡ false → after ≡ before
  followed_same true f t = absurd (true≢false t)
  followed_same false f t = f.same

  followed-member :
      (b : Bool) → Followed start a c before after b → (x : ℕ) → member after x ≡ true
      → (member before x ≡ true) ⊎ ((x ≡ c) × Marks start a c before after)
  followed-member false f x t = inl (ap (λ s. member s x) (sym f.same) ∙ t)
  followed-member true f x t = ⊎_elim
      (λ (e : eqb x c ≡ true). inr (eqb-eq x c e, f))
      (λ (e : eqb x c ≡ false).
      inl
      (sym (get_or-set_other before c x true false (λ p. clash (eqb_of x c p) e))
      ∙ (ap (λ s. member s x) (sym f.grown) ∙ t)))
      (test (eqb x c))

  followed-held :
      (b : Bool) → Followed start a c before after b → b ≡ false
      → a < document.atoms → c < document.atoms → source start before a ≡ true → member before c ≡ true
  followed-held true f t = absurd (true≢false t)
  followed-held false f t = f.held

module _ (from to : List ℕ) (count start : ℕ) where
  -- A member of a set of which each member is reached, or the start, is left by an edge: where that leads is reached.
  source-step :
      (flags : List Bool) → OnlyReached from to count start flags → (a c : ℕ) → source start flags a ≡ true
      → Edge from to count a c → Steps (Edge from to count) start c
  source-step flags only a c t e = ⊎_elim
      (λ (u : eqb a start ≡ true). one (subst (λ z. Edge from to count z c) (eqb-eq a start u) e))
      (λ (u : member flags a ≡ true). steps_on (only a u) e)
      (or_cases (eqb a start) (member flags a) t)

  -- An edge counted up to i, if its index is below i.
  edge-below : {n a c : ℕ} (i : ℕ) (e : Edge from to n a c) → e.index < i → Edge from to i a c
  edge-below i e l =
      record {
        index = e.index;
        counted = l;
        in_from = e.in_from;
        in_to = e.in_to;
        leaves = e.leaves;
        enters = e.enters;
        atom_from = e.atom_from;
        atom_to = e.atom_to;
      }

  -- The edge at i.
  edge_at :
      (i : ℕ) → i < count → i < length from → i < length to
      → get_or from i 0 < document.atoms → get_or to i 0 < document.atoms
      → Edge from to count (get_or from i 0) (get_or to i 0)
  edge_at i counted in_from in_to atom_from atom_to =
      record {
        index = i;
        counted = counted;
        in_from = in_from;
        in_to = in_to;
        leaves = refl;
        enters = refl;
        atom_from = atom_from;
        atom_to = atom_to;
      }

  -- No edge followed yet.
  pub round-start : (flags : List Bool) → Round from to count start 0 flags flags false
  round-start flags =
      record {
        only = λ s. s;
        fewer = omega arith;
        same = λ t. refl;
        all = λ t a c e o. absurd (omega (arith, e.counted));
      }

  -- One edge more.
  module _
      (i : ℕ) (before now after : List Bool) (b d : Bool)
      (counted : i < count) (in_from : i < length from) (in_to : i < length to)
      (so_far : Round from to count start i before now b)
      (f : Followed start (get_or from i 0) (get_or to i 0) now after d)
    where
      next-only : OnlyReached from to count start before → OnlyReached from to count start after
      next-only s x t = ⊎_elim
          (λ (u : member now x ≡ true). so_far.only s x u)
          (λ (w : (x ≡ get_or to i 0) × Marks start (get_or from i 0) (get_or to i 0) now after).
          subst (λ z. Steps (Edge from to count) start z) (sym w.0)
          (source-step now (so_far.only s) _ _ w.1.from_source
          (edge_at i counted in_from in_to w.1.atom_from w.1.atom_to)))
          (followed-member start _ _ now after d f x t)

      next-all : (b || d) ≡ false → AllFollowed from to (i + 1) start before
      next-all t a c e o = ⊎_elim
          (λ (l : i ≤ e.index).
          (let at : e.index ≡ i = omega (arith, e.counted) in
          let same : now ≡ before = so_far.same (or-false-l b d t) in
          let leaves : get_or from i 0 ≡ a = rw at at e.leaves in
          let enters : get_or to i 0 ≡ c = rw at at e.enters in
          let held = followed-held start _ _ now after d f (or-false-r b d t) in
          rw (← enters, ← same) (held (rw leaves e.atom_from) (rw enters e.atom_to) (rw (leaves, same) o))))
          (λ (l : e.index < i). so_far.all (or-false-l b d t) a c (edge-below i e l) o)
          (le-or-lt i e.index)

      pub round-next : Round from to count start (i + 1) before after (b || d)
      round-next =
          record {
            only = next-only;
            fewer = omega (arith, so_far.fewer, followed-fewer start _ _ now after d f, one_if-or b d);
            same = λ t. followed_same start _ _ now after d f (or-false-r b d t) ∙ so_far.same (or-false-l b d t);
            all = next-all;
          }

  -- All that are in both lists.
  pub round-end :
      (i : ℕ) (before after : List Bool) (b : Bool) → min count (min (length from) (length to)) ≤ i
      → Round from to count start i before after b → Round from to count start count before after b
  round-end i before after b l r =
      record {
        only = r.only;
        fewer = r.fewer;
        same = r.same;
        all =
            λ t a c e o.
            r.all t a c (edge-below i e (omega (arith, e.counted, e.in_from, e.in_to))) o;
      }

-- The rounds made so far: each member is reached, and if the last brought none in, every edge was followed.
pub record Rounds (from to : List ℕ) (count start : ℕ) (flags : List Bool) (again : Bool) : Type 0 where
  pub only : OnlyReached from to count start flags
  pub all : again ≡ false → AllFollowed from to count start flags

none_in : (n x : ℕ) → member (replicate n false) x ≡ false
none_in zero x = refl
none_in (suc n) zero = refl
none_in (suc n) (suc x) = none_in n x

module _ (from to : List ℕ) (count start : ℕ) where
  pub rounds-start : (n : ℕ) → Rounds from to count start (replicate n false) true
  rounds-start n =
      record { only = λ x t. absurd (clash t (none_in n x)); all = λ t. absurd (true≢false t) }

  pub rounds-next :
      (before after : List Bool) (again b : Bool) → Rounds from to count start before again
      → Round from to count start count before after b → Rounds from to count start after b
  rounds-next before after again b w r =
      record {
        only = r.only w.only;
        all = λ t. subst (AllFollowed from to count start) (sym (r.same t)) (r.all t);
      }

  -- A round that brings an atom in leaves fewer outside; the first that brings none in is the last.
  pub rounds-fewer :
      (before after : List Bool) (again b : Bool) → again ≡ true
      → Round from to count start count before after b
      → outside after + one_if b < outside before + one_if again
  rounds-fewer before after again b t r = omega (arith, r.fewer, ap one_if t)

  -- At rest the set holds what the start's edges lead to, and what its members' edges lead to: all that is reached.
  pub rounds-over :
      (flags : List Bool) (again : Bool) → again ≡ false → Rounds from to count start flags again
      → Reached from to count start (member flags)
  rounds-over flags again t w x = (
    w.only x,
    steps-in (member flags)
        (λ y z u e. w.all t y z e (or_r (eqb y start) _ u))
        (λ y e. w.all t start y e (or_l _ _ (eqb_of start start refl))),
  )
