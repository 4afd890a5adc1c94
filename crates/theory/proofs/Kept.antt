-- Programs that hold the same rules slot by slot: dependencies, derivations, models and labels agree. So those of a
-- program agree with those of its rules as they are kept (request #102). Assumes nothing.
use Prim.Native.Nat.{ℕ, zero, suc, ◌≤◌, ◌<◌}
use native.Mathlib.Omega.{arith}
use mathlib.Core.Path.{◌≡◌, refl, sym, ◌∙◌, ap, ap₂, subst}
use mathlib.Core.Logic.{⊎_elim, ◌↔◌}
use mathlib.Core.Bool.{Bool, true, false, not, ◌&&◌}
use mathlib.Core.List.Memᴰ
use mathlib.Core.List.{List, [], ◌∷◌, map}
use mathlib.Core.Option
use mathlib.Core.Option.{Option, none, some, none-ne-some, some-injective}
use lib.Dec.{eqb}
use lib.ListN.{get_or, length, length-set, set, get_or-map}
use Rattle.theory.specs.Lists.{◌∈◌}
use Rattle.theory.specs.Rules.{active, all, entries, Held, kept, Occurs, Pages, Program, Rule}
use Rattle.theory.specs.Models.{Admissible, AtomSet, next, Ordered, start, valid}
use Rattle.theory.specs.Dependencies.{DependencyPath, Depends, here, negative, NegativeCycle, Negatively, positive}
use Rattle.theory.specs.Dependencies.{Positively}
use Rattle.theory.specs.Derivations.{also, by, Depth, Derivation, Derivations, leaf}
use Rattle.theory.specs.Labels.{is_absent, is_in, is_out, Label, Labelled, Supports}
use Rattle.theory.specs.Questions.{stratified}
use Rattle.theory.proofs.Lists.{clash, eqb-eq, eqb_of, le-or-lt, same_test, test}
use Rattle.theory.proofs.Sorting.{every-same}
use Rattle.theory.proofs.Derivations.{entry, gather, last}
use Rattle.theory.proofs.Cycles.{stratified-iff}
use Rattle.theory.proofs.Questions.{held_below, other-set, set-held, set_other}
use Rattle.theory.proofs.Sameness.{SameAtoms, same_entries, same-iff, same_kept, same_refl, same-sym}

-- Rules that are the same are valid in the same sets.
pub same-valid : (M : AtomSet) (q r : Rule) → SameAtoms q r → valid M q ≡ valid M r
unfolding valid
same-valid M q r s = ap₂ (λ a b. a && b) (every-same M q.positives r.positives s.positives)
    (every-same (λ x. not (M x)) q.negatives r.negatives s.negatives)

-- Derivations of a list are derivations of its atoms in any order: an entry has the list's height.

module _ {P : Program} {M : AtomSet} where
  -- an entry whose derivation is as high as the list's
  highest :
      {xs : List ℕ} {h : ℕ} → Derivations P M xs h → (x : ℕ) → x ∈ xs → (p : ℕ) × (p ∈ xs) × Derivation P M p h
  highest leaf x m = absurd (Memᴰ.not-nil m)
  highest (also {a = a} {h = h} {k = k} {xs = []} d leaf) x m =
      (a, Memᴰ.head refl, subst (Derivation P M a) (omega arith) d)
  highest (also {a = a} {h = h} {k = k} {xs = y ∷ ys} d ds) x m = ⊎_elim
      (λ (l : h ≤ k). (
      let w = highest ds y (Memᴰ.head refl) in
      (w.0, Memᴰ.tail w.1, subst (Derivation P M w.0) (omega arith) w.2)))
      (λ (l : k < h). (a, Memᴰ.head refl, subst (Derivation P M a) (omega arith) d))
      (le-or-lt h k)

  -- derivations of all entries, none higher than h, and one of them h high
  gather-to :
      (h : ℕ) (xs : List ℕ) → ((p : ℕ) → p ∈ xs → (i : ℕ) × Derivation P M p i × (i ≤ h)) → (x : ℕ) → x ∈ xs
      → Derivation P M x h → Derivations P M xs h
  gather-to h [] f x m d = absurd (Memᴰ.not-nil m)
  gather-to h (y ∷ ys) f x m d = ⊎_elim
      (λ (e : x ≡ y). (
      let ds = gather P M h ys (λ p i. f p (Memᴰ.tail i)) in
      let first = subst (λ (z : ℕ). Derivation P M z h) e d in
      subst (Derivations P M (y ∷ ys)) (omega (arith, ds.2)) (also first ds.1)))
      (λ (i : x ∈ ys). (
      let first = f y (Memᴰ.head refl) in
      let ds = gather-to h ys (λ p j. f p (Memᴰ.tail j)) x i d in
      subst (Derivations P M (y ∷ ys)) (omega (arith, first.2)) (also first.1 ds)))
      (Memᴰ.cases_cons m)

-- so derivations of a list by P are such of the same atoms by Q, if those of its entries are
reordered :
    (P Q : Program) (M : AtomSet) {xs : List ℕ} {h : ℕ} (ys : List ℕ) → ((x : ℕ) → x ∈ xs ↔ x ∈ ys)
    → ((p i : ℕ) → i ≤ h → Derivation P M p i → Derivation Q M p i) → Derivations P M xs h → Derivations Q M ys h
reordered P Q M [] e f leaf = leaf
reordered P Q M [] e f (also {a = a} d ds) = absurd (Memᴰ.not-nil ((e a).0 (Memᴰ.head refl)))
reordered P Q M {xs} {h} (y ∷ ys) e f ds =
    let w = highest ds y ((e y).1 (Memᴰ.head refl)) in
    gather-to h (y ∷ ys)
    (λ p m. (let i = entry ds p ((e p).1 m) in (i.0, f p i.0 i.2 i.1, i.2)))
    w.0 ((e w.0).0 w.1) (f w.0 h (omega arith) w.2)

-- Each slot with a rule of P has in Q one that is the same.
abbrev pub SameRules : Program → Program → Type 0
SameRules P Q = (s : ℕ) (r : Rule) → Held P s r → (q : Rule) × Held Q s q × SameAtoms r q

-- What Q has then of what P has.
module _ (P Q : Program) (there : SameRules P Q) where
  depends-too :
      (list : Rule → List ℕ) → ((q r : Rule) → SameAtoms q r → (x : ℕ) → x ∈ list q → x ∈ list r) → (a x : ℕ)
      → Depends P list a x → Depends Q list a x
  depends-too list same-list a x d =
      let w = there d.slot d.rule d.held in
      record {
        slot = d.slot;
        rule = w.0;
        held = w.1;
        heads = sym w.2.heads ∙ d.heads;
        entry = same-list d.rule w.0 w.2 x d.entry;
      }

  positively-too : (a x : ℕ) → Positively P a x → Positively Q a x
  positively-too = depends-too (λ r. r.positives) (λ q r s x. (s.positives x).0)

  negatively-too : (a x : ℕ) → Negatively P a x → Negatively Q a x
  negatively-too = depends-too (λ r. r.negatives) (λ q r s x. (s.negatives x).0)

  path-too : {a c k : ℕ} → DependencyPath P a c k → DependencyPath Q a c k
  path-too (here e) = here e
  path-too (positive d w) = positive (positively-too _ _ d) (path-too w)
  path-too (negative d w) = negative (negatively-too _ _ d) (path-too w)

  cycle-too : NegativeCycle P → NegativeCycle Q
  cycle-too c = record { atom = c.atom; further = c.further; cycle = path-too c.cycle }

  occurs-too : (a : ℕ) → Occurs P a → Occurs Q a
  occurs-too a o =
      let w = there o.slot o.rule o.held in
      record {
        slot = o.slot;
        rule = w.0;
        held = w.1;
        there = ⊎_elim
            (λ (e : a ≡ o.rule.head). Memᴰ.head (e ∙ w.2.heads))
            (λ (m : a ∈ entries o.rule). Memᴰ.tail ((same_entries o.rule w.0 w.2 a).0 m))
            (Memᴰ.cases_cons o.there);
      }

  module _ (M : AtomSet) where
    derivation-within : (n a h : ℕ) → h ≤ n → Derivation P M a h → Derivation Q M a h
    derivation-within zero a h l d = (let w = last d in absurd (omega (arith, w.height)))
    derivation-within (suc n) a h l d =
        let w = last d in
        let q = there w.slot w.rule w.held in
        subst (Derivation Q M a) (sym w.height)
        (by w.slot q.0 q.1 (sym q.2.heads ∙ w.heads)
        (sym (same-valid M w.rule q.0 q.2) ∙ w.good)
        (reordered P Q M q.0.positives q.2.positives
        (λ p i k. derivation-within n p i (omega (arith, w.height))) w.parts))

    derivation-too : {a h : ℕ} → Derivation P M a h → Derivation Q M a h
    derivation-too {a} {h} d = derivation-within h a h (omega arith) d

    ordered-too : {xs : List ℕ} → Ordered P M xs → Ordered Q M xs
    ordered-too start = start
    ordered-too (next o n s r i e v b) =
        let w = there s r i in
        next (ordered-too o) n s w.0 w.1 (sym w.2.heads ∙ e) (sym (same-valid M r w.0 w.2) ∙ v)
        (λ p m. b p ((w.2.positives p).1 m))

-- Programs that hold the same rules, slot by slot.
pub record Alike (P Q : Program) : Type 0 where
  pub there : SameRules P Q
  pub back : SameRules Q P

pub alike-sym : (P Q : Program) → Alike P Q → Alike Q P
alike-sym P Q A = record { there = A.back; back = A.there }

-- Their dependencies, paths and loops through a negation agree.
pub alike-positively : (P Q : Program) → Alike P Q → (a x : ℕ) → Positively P a x ↔ Positively Q a x
alike-positively P Q A a x = (positively-too P Q A.there a x, positively-too Q P A.back a x)

pub alike-negatively : (P Q : Program) → Alike P Q → (a x : ℕ) → Negatively P a x ↔ Negatively Q a x
alike-negatively P Q A a x = (negatively-too P Q A.there a x, negatively-too Q P A.back a x)

pub alike-cycle : (P Q : Program) → Alike P Q → NegativeCycle P ↔ NegativeCycle Q
alike-cycle P Q A = (cycle-too P Q A.there, cycle-too Q P A.back)

-- So do their derivations, with their heights.
pub alike-derivation :
    (P Q : Program) → Alike P Q → (M : AtomSet) (a h : ℕ) → Derivation P M a h ↔ Derivation Q M a h
alike-derivation P Q A M a h = (derivation-too P Q A.there M, derivation-too Q P A.back M)

-- So do their admissible models and labels.

admissible-too : (P Q : Program) → Alike P Q → (M : AtomSet) → Admissible P M → Admissible Q M
admissible-too P Q A M D = record {
  founded = record {
    order = D.founded.order;
    ordered = ordered-too P Q A.there M D.founded.ordered;
    exactly = D.founded.exactly;
  };
  closed = λ s r h v.
      (let w = A.back s r h in
      ap M w.2.heads ∙ D.closed s w.0 w.1 (sym (same-valid M r w.0 w.2) ∙ v));
}

pub alike-admissible : (P Q : Program) → Alike P Q → (M : AtomSet) → Admissible P M ↔ Admissible Q M
alike-admissible P Q A M = (admissible-too P Q A M, admissible-too Q P (alike-sym P Q A) M)

module _ (P Q : Program) (A : Alike P Q) (M : AtomSet) where
  depth-too : {a d : ℕ} → Depth P M a d → Depth Q M a d
  depth-too D = record {
    reached = derivation-too P Q A.there M D.reached;
    least = λ h e. D.least h (derivation-too Q P A.back M e);
  }

  supports-too : (a s : ℕ) → Supports P M a s → Supports Q M a s
  supports-too a s S =
      let w = A.there s S.rule S.held in
      record {
        rule = w.0;
        held = w.1;
        heads = sym w.2.heads ∙ S.heads;
        good = sym (same-valid M S.rule w.0 w.2) ∙ S.good;
        smaller = λ x m. (let i = S.smaller x ((w.2.positives x).1 m) in
            record {
              less = i.less;
              more = i.more;
              depth_x = depth-too i.depth_x;
              depth_a = depth-too i.depth_a;
              order = i.order;
            });
      }

module _ (B C : Pages) (H : Alike (all B) (all C)) (A : Alike (active B) (active C)) (M : AtomSet) (a : ℕ) where
  label-too : {l : Label} → Labelled B M a l → Labelled C M a l
  label-too (is_absent n) = is_absent (λ o. n (occurs-too (all C) (all B) H.back a o))
  label-too (is_out o f) = is_out (occurs-too (all B) (all C) H.there a o) f
  label-too (is_in {s = s} t d S) = is_in t (depth-too (active B) (active C) A M d) (record {
    supports = supports-too (active B) (active C) A M a s S.supports;
    lowest = λ k l z.
        S.lowest k l (supports-too (active C) (active B) (alike-sym (active B) (active C) A) M a k z);
  })

pub alike-labels :
    (B C : Pages) → Alike (all B) (all C) → Alike (active B) (active C) → (M : AtomSet) (a : ℕ) (l : Label)
    → Labelled B M a l ↔ Labelled C M a l
alike-labels B C H A M a l =
    (label-too B C H A M a, label-too C B (alike-sym (all B) (all C) H) (alike-sym (active B) (active C) A) M a)

-- A program and its rules as they are kept hold the same rules.

abbrev pub kept_page : Option Rule → Option Rule
kept_page none = none
kept_page (some r) = some (kept r)

abbrev pub kept_program : Program → Program
kept_program P = map kept_page P

pub kept-alike : (P : Program) → Alike P (kept_program P)
kept-alike P = record {
  there = λ s r h. (kept r, slot s ∙ ap kept_page h, (same-iff r (kept r)).0 (same_kept r));
  back = λ s r h. from (get_or P s none) s r refl (sym (slot s) ∙ h);
}
  where
    slot : (s : ℕ) → get_or (kept_program P) s none ≡ kept_page (get_or P s none)
    slot s = get_or-map kept_page P s none

    from :
        (o : Option Rule) (s : ℕ) (r : Rule) → get_or P s none ≡ o → kept_page o ≡ some r
        → (q : Rule) × Held P s q × SameAtoms r q
    from none s r e h = absurd (none-ne-some r h)
    from (some q) s r e h = (
      q,
      e,
      subst (λ (z : Rule). SameAtoms z q) (some-injective (kept q) r h)
          ((same-iff (kept q) q).0 (same-sym q (kept q) (same_kept q))),
    )

-- So a rule and its kept form, a program and its rules as they are kept, agree in all of this.

pub kept-valid : (M : AtomSet) (r : Rule) → valid M r ≡ valid M (kept r)
kept-valid M r = same-valid M r (kept r) ((same-iff r (kept r)).0 (same_kept r))

module _ (P : Program) where
  pub kept-positively : (a x : ℕ) → Positively P a x ↔ Positively (kept_program P) a x
  kept-positively = alike-positively P (kept_program P) (kept-alike P)

  pub kept-negatively : (a x : ℕ) → Negatively P a x ↔ Negatively (kept_program P) a x
  kept-negatively = alike-negatively P (kept_program P) (kept-alike P)

  pub kept-cycle : NegativeCycle P ↔ NegativeCycle (kept_program P)
  kept-cycle = alike-cycle P (kept_program P) (kept-alike P)

  pub kept-derivation : (M : AtomSet) (a h : ℕ) → Derivation P M a h ↔ Derivation (kept_program P) M a h
  kept-derivation = alike-derivation P (kept_program P) (kept-alike P)

  pub kept-admissible : (M : AtomSet) → Admissible P M ↔ Admissible (kept_program P) M
  kept-admissible = alike-admissible P (kept_program P) (kept-alike P)

-- Pages with their rules as they are kept, each with its mark: the labels agree.

abbrev pub kept_pages : Pages → Pages
kept_pages B = map (Option.map (λ p. record { rule = kept p.rule; muted = p.muted })) B

module _ (B : Pages) where
  kept-all : all (kept_pages B) ≡ kept_program (all B)
  kept-all = go B
    where
      go : (C : Pages) → all (kept_pages C) ≡ kept_program (all C)
      go [] = refl
      go (none ∷ C) = ap (λ (P : Program). none ∷ P) (go C)
      go (some p ∷ C) = ap (λ (P : Program). some (kept p.rule) ∷ P) (go C)

  kept-active : active (kept_pages B) ≡ kept_program (active B)
  kept-active = go B
    where
      one : (m : Bool) (r : Rule) → elim m [ true ↦ none | false ↦ some (kept r) ]
          ≡ kept_page (elim m [ true ↦ none | false ↦ some r ])
      one true r = refl
      one false r = refl

      go : (C : Pages) → active (kept_pages C) ≡ kept_program (active C)
      go [] = refl
      go (none ∷ C) = ap (λ (P : Program). none ∷ P) (go C)
      go (some p ∷ C) = ap₂ ◌∷◌ (one p.muted p.rule) (go C)

  pub kept-labelled : (M : AtomSet) (a : ℕ) (l : Label) → Labelled B M a l ↔ Labelled (kept_pages B) M a l
  kept-labelled = alike-labels B (kept_pages B)
      (subst (Alike (all B)) (sym kept-all) (kept-alike (all B)))
      (subst (Alike (active B)) (sym kept-active) (kept-alike (active B)))

-- Question 7 does not ask in which order the entries were given.

put_same :
    (P : Program) (s : ℕ) (q r : Rule) → SameAtoms q r → SameRules (set P s (some q)) (set P s (some r))
put_same P s q r a t p h = ⊎_elim
    (λ (u : eqb t s ≡ true). (
    let e = eqb-eq t s u in
    let l : s < length P = omega (arith, held_below (set P s (some q)) t p h, length-set P s (some q)) in
    let i : q ≡ p =
    some-injective q p (sym (set-held P s q l) ∙ ap (λ (k : ℕ). get_or (set P s (some q)) k none) (sym e) ∙ h) in
    (r, ap (λ (k : ℕ). get_or (set P s (some r)) k none) e ∙ set-held P s r l, subst (λ (z : Rule). SameAtoms z r) i a)))
    (λ (u : eqb t s ≡ false). (
    let n : t ≡ s → ⊥ = λ e. clash (eqb_of t s e) u in
    (p, set_other P s t (some r) p n (other-set P s t (some q) p n h), (same-iff p p).0 (same_refl p))))
    (test (eqb t s))

pub kept-stratified :
    (P : Program) (s : ℕ) (r : Rule) → stratified (set P s (some r)) ≡ stratified (set P s (some (kept r)))
kept-stratified P s r = same_test _ _
    (λ t. (stratified-iff _).1 (λ c. (stratified-iff _).0 t (cycle-too _ _ back c)))
    (λ t. (stratified-iff _).1 (λ c. (stratified-iff _).0 t (cycle-too _ _ there c)))
  where
    there : SameRules (set P s (some r)) (set P s (some (kept r)))
    there = put_same P s r (kept r) ((same-iff r (kept r)).0 (same_kept r))

    back : SameRules (set P s (some (kept r))) (set P s (some r))
    back = put_same P s (kept r) r ((same-iff (kept r) r).0 (same-sym r (kept r) (same_kept r)))
