-- Every atom has exactly one label, every in atom a supporting slot, and a rule has no spoiler if and only if it is
-- valid. Assumes nothing.
use Prim.Native.Nat.{ℕ, zero, suc, ◌≤◌, ◌<◌}
use native.Mathlib.Omega.{arith}
use mathlib.Core.Path.{◌≡◌, refl, sym, ◌∙◌, ap, ap₂, subst, fun_ext}
use mathlib.Core.Logic.{⊎_elim}
use mathlib.Core.Bool.{Bool, true, false, not, ◌&&◌}
use mathlib.Core.List.Memᴰ
use mathlib.Core.List.{List}
use lib.Dec.{eqb}
use lib.ListN.{get_or}
use mathlib.Core.Option.{Option, none, some, some-injective, none-ne-some}
use Rattle.theory.specs.Lists.{◌∈◌, before, every, first, FirstAt}
use Rattle.theory.specs.Rules.{active, all, entries, Occurs, Pages, passes, Program, Rule}
use Rattle.theory.specs.Models.{AtomSet, Founded, Admissible, valid}
use Rattle.theory.specs.Dependencies.{NegativeCycle}
use Rattle.theory.specs.Derivations.{Depth}
use Rattle.theory.specs.Questions.{is_in_label}
use Rattle.theory.specs.Labels.{absent, in_at, is_absent, is_in, is_out, Label, Labelled, out}
use Rattle.theory.specs.Labels.{Supporting, Supports, Side, positive, negative, Spoiler, first_on, spoiler}
use Rattle.theory.specs.Labels.{Spoils, needs, blocked}
use Rattle.theory.specs.Slots.{occurs?}
use Rattle.theory.proofs.Lists.{and_l, and-of, and_r, clash, eqb-eq, eqb_of, every-at, every_of, le-or-lt}
use Rattle.theory.proofs.Lists.{first-exists, first-in, first-none, first_of, first-of-none, first-place, least}
use Rattle.theory.proofs.Lists.{not-false, not-true, test, unless}
use Rattle.theory.proofs.Rules.{occurs-at, occurs-of, passes_at, rules-at, valid-negative, valid-of}
use Rattle.theory.proofs.Rules.{valid-positive}
use Rattle.theory.proofs.Strata.{acyclic-strata, model-unique, rules-below}
use Rattle.theory.proofs.Pages.{active-acyclic, active-occurs}
use Rattle.theory.proofs.Derivations.{entry, last}
use Rattle.theory.proofs.Found.{ordered-rule}
use Rattle.theory.proofs.Depths.{depth-unique, derived-within, in-depth, within, within-depth}

-- slot s supports a, whose depth is k + 1
unfoldable pub support_test : Program → AtomSet → ℕ → ℕ → ℕ → Bool
support_test P M k a s = passes
    (λ r. eqb r.head a && (valid M r && every (within P M k) r.positives)) (get_or P s none)

module _ (P : Program) (M : AtomSet) (k a : ℕ) (D : Depth P M a (suc k)) where
  pub support-at : (s : ℕ) → support_test P M k a s ≡ true → Supports P M a s
  unfolding support_test
  support-at s t =
      let w = passes_at (λ r. eqb r.head a && (valid M r && every (within P M k) r.positives))
      (get_or P s none) t in
      let r = w.0 in
      let u = and_r (eqb r.head a) (valid M r && every (within P M k) r.positives) w.2 in
      record {
        rule = r;
        held = w.1;
        heads = eqb-eq _ _ (and_l (eqb r.head a) _ w.2);
        good = and_l (valid M r) _ u;
        smaller = λ p m. (let i = within-depth P M k p
            (every-at (within P M k) r.positives (and_r (valid M r) _ u) p m) in
            record { less = i.0; more = suc k; depth_x = i.1; depth_a = D; order = omega (arith, i.2) });
      }

  pub support-of : (s : ℕ) → Supports P M a s → support_test P M k a s ≡ true
  unfolding support_test
  support-of s w = rw w.held
      (and-of _ _ (eqb_of _ _ w.heads)
      (and-of _ _ w.good
      (every_of (within P M k) w.rule.positives
      (λ p m. (let i = w.smaller p m in
      derived-within P M k p i.less i.depth_x.reached
      (omega (arith, i.order, depth-unique D i.depth_a)))))))

pub supporting-unique : (P : Program) (M : AtomSet) (a s t : ℕ) → Supporting P M a s → Supporting P M a t → s ≡ t
supporting-unique P M a s t S T' = ⊎_elim
    (λ (l : s ≤ t). ⊎_elim (λ (k : t ≤ s). omega arith)
    (λ (k : s < t). absurd (T'.lowest s k S.supports)) (le-or-lt t s))
    (λ (l : t < s). absurd (S.lowest t l T'.supports))
    (le-or-lt s t)

-- the last rule of a lowest derivation supports
some-support : (P : Program) (M : AtomSet) (a d : ℕ) → Depth P M a d → (s : ℕ) × Supports P M a s
some-support P M a d D =
    let w = last D.reached in (
      w.slot,
      record {
        rule = w.rule;
        held = w.held;
        heads = w.heads;
        good = w.good;
        smaller = λ p m. (
            let i = entry w.parts p m in
            let j = within-depth P M i.0 p (derived-within P M i.0 p i.0 i.1 (omega arith)) in
            record {
              less = j.0;
              more = d;
              depth_x = j.1;
              depth_a = D;
              order = omega
                  (arith, j.2, i.2, w.height);
            });
      },
    )

pub supported : (P : Program) (M : AtomSet) (a d : ℕ) → Depth P M a d → (s : ℕ) × Supporting P M a s
supported P M a zero D = absurd (omega (arith, (last D.reached).height))
supported P M a (suc k) D =
    let w = some-support P M a (suc k) D in
    let l = least (support_test P M k a) w.0 (support-of P M k a D w.0 w.1) in (
      l.0,
      record {
        supports = support-at P M k a D l.0 l.2;
        lowest = λ t i S. clash (support-of P M k a D t S)
            (l.3 t i);
      },
    )

-- An atom of the model occurs: it is a head.
pub in-occurs : (P : Program) (M : AtomSet) → Founded P M → (a : ℕ) → M a ≡ true → Occurs P a
in-occurs P M F a t =
    let w = ordered-rule P M F.order F.ordered a ((F.exactly a).0 t) in
    let h = rules-at P w.0 w.1 in
    record { slot = h.0; rule = w.0; held = h.1; there = Memᴰ.head (sym w.2) }

-- So it occurs among all rules held, where it is an atom of the model of the unmuted ones.
pub in-occurs-held : (B : Pages) (M : AtomSet) → Founded (active B) M → (a : ℕ) → M a ≡ true → Occurs (all B) a
in-occurs-held B M F a t = active-occurs B a (in-occurs (active B) M F a t)

-- A label says in exactly if the atom is in the model.
pub label_in :
    (B : Pages) (M : AtomSet) → Admissible (active B) M → (a : ℕ) (l : Label) → Labelled B M a l
    → is_in_label l ≡ M a
label_in B M A a absent (is_absent f) = sym (unless (M a) (λ t. f (in-occurs-held B M A.founded a t)))
label_in B M A a out (is_out o t) = sym t
label_in B M A a (in_at k s) (is_in t D S) = sym t

-- Every atom has a label.
pub label-exists : (B : Pages) (M : AtomSet) → Founded (active B) M → (a : ℕ) → (l : Label) × Labelled B M a l
label-exists B M F a = ⊎_elim
    (λ (t : M a ≡ true).
    (let d = in-depth (active B) M F a t in let s = supported (active B) M a d.0 d.1 in
    (in_at d.0 s.0, is_in t d.1 s.1)))
    (λ (t : M a ≡ false). ⊎_elim (λ (o : occurs? (all B) a ≡ true). (out, is_out (occurs-at (all B) a o) t))
    (λ (o : occurs? (all B) a ≡ false). (absent, is_absent (λ q. clash (occurs-of (all B) a q) o)))
    (test (occurs? (all B) a)))
    (test (M a))

-- And only one.
pub label-unique :
    (B : Pages) (M : AtomSet) → Founded (active B) M → (a : ℕ) (k l : Label) → Labelled B M a k → Labelled B M a l
    → k ≡ l
label-unique B M F a k l (is_absent f) (is_absent g) = refl
label-unique B M F a k l (is_absent f) (is_out o n) = absurd (f o)
label-unique B M F a k l (is_absent f) (is_in t D S) = absurd (f (in-occurs-held B M F a t))
label-unique B M F a k l (is_out o n) (is_absent g) = absurd (g o)
label-unique B M F a k l (is_out o n) (is_out p m) = refl
label-unique B M F a k l (is_out o n) (is_in t D S) = absurd (clash t n)
label-unique B M F a k l (is_in t D S) (is_absent g) = absurd (g (in-occurs-held B M F a t))
label-unique B M F a k l (is_in t D S) (is_out p m) = absurd (clash t m)
label-unique B M F a k l (is_in t D S) (is_in u E R) =
    ap₂ in_at (depth-unique D E) (supporting-unique (active B) M a _ _ S R)

-- Two models that agree give the same labels.
pub label-moves : (B : Pages) (M N : AtomSet) → ((x : ℕ) → M x ≡ N x) → (a : ℕ) (l : Label) → Labelled B M a l
    → Labelled B N a l
label-moves B M N e a l w = subst (λ (X : AtomSet). Labelled B X a l) (fun_ext e) w

-- Where all rules held have no negative cycle, the unmuted ones have one admissible model.
pub one-model :
    (B : Pages) → (NegativeCycle (all B) → ⊥) → (M N : AtomSet) → Admissible (active B) M → Admissible (active B) N
    → (x : ℕ) → M x ≡ N x
one-model B free =
    model-unique (active B) (rules-below (active B)) (acyclic-strata (active B) (active-acyclic B free))

-- The label of an atom is the same by any admissible model.
pub same-label :
    (B : Pages) (M N : AtomSet) (a : ℕ) (k l : Label) → (NegativeCycle (all B) → ⊥)
    → Admissible (active B) M → Admissible (active B) N → Labelled B M a k → Labelled B N a l → k ≡ l
same-label B M N a k l free A D K L =
    label-unique B N D.founded a k l (label-moves B M N (one-model B free M N A D) a k K) L

-- Spoilers.

module _ (d : Side) (f : ℕ → Bool) (xs : List ℕ) where
  pub first-on-some :
      (x : ℕ) → first f xs ≡ some x → first_on d f xs ≡ some (record { side = d; place = before f xs; atom = x })
  unfolding first_on
  first-on-some x e = rw (e, first_on)

  pub first-on-none : first f xs ≡ none → first_on d f xs ≡ none
  unfolding first_on
  first-on-none e = rw (e, first_on)

  pub first-on-at :
      (i x : ℕ) → FirstAt f xs i x → first_on d f xs ≡ some (record { side = d; place = i; atom = x })
  first-on-at i x w =
      let e = first_of f xs i x w in
      first-on-some x e.0 ∙ ap (λ k. some (record { side = d; place = k; atom = x })) e.1

-- The positive list is read first: a spoiling positive entry comes before any negative one.
pub spoiler-positive :
    (M : AtomSet) (r : Rule) (s : Spoiler) → first_on positive (λ y. not (M y)) r.positives ≡ some s
    → spoiler M r ≡ some s
unfolding spoiler
spoiler-positive M r s e = rw (e, spoiler)

pub spoiler-negative :
    (M : AtomSet) (r : Rule) → first_on positive (λ y. not (M y)) r.positives ≡ none
    → spoiler M r ≡ first_on negative M r.negatives
unfolding spoiler
spoiler-negative M r e = rw (e, spoiler)

-- Two cases: no entry spoils, or the spoiler is found and spoils.
data Read (M : AtomSet) (r : Rule) : Type 0 where
  nothing :
      first (λ y. not (M y)) r.positives ≡ none → first M r.negatives ≡ none → spoiler M r ≡ none → Read M r
  found : (s : Spoiler) → spoiler M r ≡ some s → Spoils M r s → Read M r

all_in : (M : AtomSet) (xs : List ℕ) → first (λ y. not (M y)) xs ≡ none → (x : ℕ) → x ∈ xs → M x ≡ true
all_in M xs e x m = not-false (M x) (first-none (λ y. not (M y)) xs e x m)

read : (M : AtomSet) (r : Rule) → Read M r
read M r = go (first (λ y. not (M y)) r.positives) refl (first M r.negatives) refl
  where
    go : (o : Option ℕ) → first (λ y. not (M y)) r.positives ≡ o → (q : Option ℕ) → first M r.negatives ≡ q
        → Read M r
    go (some x) h q k =
        found _ (spoiler-positive M r _ (first-on-some positive (λ y. not (M y)) r.positives x h))
        (needs (first-place (λ y. not (M y)) r.positives x h))
    go none h (some x) k =
        found _ (spoiler-negative M r (first-on-none positive (λ y. not (M y)) r.positives h)
        ∙ first-on-some negative M r.negatives x k)
        (blocked (all_in M r.positives h) (first-place M r.negatives x k))
    go none h none k =
        nothing h k (spoiler-negative M r (first-on-none positive (λ y. not (M y)) r.positives h)
        ∙ first-on-none negative M r.negatives k)

-- The spoiler stands at its place of its list and really spoils; no entry before it does.
pub spoils : (M : AtomSet) (r : Rule) (s : Spoiler) → spoiler M r ≡ some s → Spoils M r s
spoils M r s e = go (read M r)
  where
    go : Read M r → Spoils M r s
    go (nothing p n h) = absurd (none-ne-some s (sym h ∙ e))
    go (found z h w) = subst (Spoils M r) (some-injective z s (sym h ∙ e)) w

-- What spoils a rule so, is its spoiler: there is one at most.
pub spoils-spoiler : (M : AtomSet) (r : Rule) (s : Spoiler) → Spoils M r s → spoiler M r ≡ some s
spoils-spoiler M r s (needs {i} {x} w) =
    spoiler-positive M r s (first-on-at positive (λ y. not (M y)) r.positives i x w)
spoils-spoiler M r s (blocked {i} {x} p w) =
    spoiler-negative M r
    (first-on-none positive (λ y. not (M y)) r.positives
    (first-of-none (λ y. not (M y)) r.positives (λ y m. ap not (p y m))))
    ∙ first-on-at negative M r.negatives i x w

-- An atom in both lists of a rule. If it is out, the rule needs a positive entry: the first that is out, which is this
-- atom unless another comes before it. If it is in, and so is every other positive entry, the rule is blocked by a
-- negative one: the first that is in, which is this atom unless another comes before it.

pub both-needed :
    (M : AtomSet) (r : Rule) (x : ℕ) → x ∈ r.positives → x ∈ r.negatives → M x ≡ false
    → (i y : ℕ) × FirstAt (λ z. not (M z)) r.positives i y
    × (spoiler M r ≡ some (record { side = positive; place = i; atom = y }))
both-needed M r x m n t =
    let w = first-exists (λ z. not (M z)) r.positives x m (ap not t) in
    (w.0, w.1, w.2, spoils-spoiler M r _ (needs w.2))

pub both-blocked :
    (M : AtomSet) (r : Rule) (x : ℕ) → x ∈ r.positives → x ∈ r.negatives → M x ≡ true
    → ((y : ℕ) → y ∈ r.positives → M y ≡ true)
    → (i y : ℕ) × FirstAt M r.negatives i y
    × (spoiler M r ≡ some (record { side = negative; place = i; atom = y }))
both-blocked M r x m n t all =
    let w = first-exists M r.negatives x n t in
    (w.0, w.1, w.2, spoils-spoiler M r _ (blocked all w.2))

-- The spoiler's atom is an entry of the rule.
pub spoiler-entry : (M : AtomSet) (r : Rule) (s : Spoiler) → Spoils M r s → s.atom ∈ entries r
spoiler-entry M r s (needs w) = Memᴰ.append_left r.negatives (first-in _ r.positives _ _ w)
spoiler-entry M r s (blocked p w) = Memᴰ.append_right r.positives (first-in _ r.negatives _ _ w)

-- A rule that an entry spoils is not valid.
spoilt-invalid : (M : AtomSet) (r : Rule) (s : Spoiler) → Spoils M r s → valid M r ≡ true → ⊥
spoilt-invalid M r s (needs {x = x} w) v =
    clash (valid-positive M r v x (first-in _ r.positives _ x w)) (not-true _ w.good)
spoilt-invalid M r s (blocked {x = x} p w) v =
    clash w.good (valid-negative M r v x (first-in _ r.negatives _ x w))

-- A rule has no spoiler if and only if it is valid.

pub no_spoiler-valid : (M : AtomSet) (r : Rule) → spoiler M r ≡ none → valid M r ≡ true
no_spoiler-valid M r e = go (read M r)
  where
    go : Read M r → valid M r ≡ true
    go (nothing p n h) = valid-of M r (all_in M r.positives p) (first-none M r.negatives n)
    go (found s h w) = absurd (none-ne-some s (sym e ∙ h))

pub valid-no_spoiler : (M : AtomSet) (r : Rule) → valid M r ≡ true → spoiler M r ≡ none
valid-no_spoiler M r v = go (read M r)
  where
    go : Read M r → spoiler M r ≡ none
    go (nothing p n h) = h
    go (found s h w) = absurd (spoilt-invalid M r s w v)

-- a rule that is not valid has a spoiler
pub spoiler-exists : (M : AtomSet) (r : Rule) → valid M r ≡ false → (s : Spoiler) × (spoiler M r ≡ some s)
spoiler-exists M r v = go (spoiler M r) refl
  where
    go : (o : Option Spoiler) → spoiler M r ≡ o → (s : Spoiler) × (spoiler M r ≡ some s)
    go none e = absurd (clash (no_spoiler-valid M r e) v)
    go (some s) e = (s, e)
