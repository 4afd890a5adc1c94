-- T1 to T11 and the tables of requests #102 and #108 hold: their answers are computed, their labels are shown by the
-- certificate. Assumes nothing.
use Prim.Native.Nat.{ℕ, zero, suc, ◌≤◌, ◌<◌}
use native.Mathlib.Omega.{arith}
use mathlib.Core.Path.{◌≡◌, refl, sym, ◌∙◌, ap, ap₂, subst}
use mathlib.Core.Logic.{◌⊎◌, inl, inr, ⊎_elim}
use mathlib.Core.Bool.{Bool, true, false, not, ◌&&◌, ◌||◌, true≢false}
use mathlib.Core.List.Memᴰ
use mathlib.Core.List.{List, [], ◌∷◌, map, Memᴰ}
use mathlib.Core.Option.{none}
use lib.Dec.{eqb, leb}
use lib.ListN.{get_or}
use Rattle.theory.specs.Lists.{◌∈◌, any, distinct, every, greatest, insert, same_members, sort}
use Rattle.theory.specs.Rules.{active, all, any_rule, entries, Held, Occurs, Pages, passes, Program, Rule, same}
use Rattle.theory.specs.Models.{AtomSet, valid}
use Rattle.theory.specs.Labels.{absent, in_at, Label, Labelled, out}
use Rattle.theory.specs.Questions.{first_no, lowest_free, reaches, rules, stratified}
use Rattle.theory.specs.Book.{accepted, after, after_all, answer, Answer, answers, empty, refused, slot}
use Rattle.theory.specs.Limits.{document}
use Rattle.theory.specs.Tables.{Example, left, Row, Shows, tables}
use Rattle.theory.proofs.Lists.{and_l, and-of, and_r, clash, eqb-eq, eqb_of, every-at, le-or-lt, leb-le, mem}
use Rattle.theory.proofs.Lists.{mem-in, not-true, or_cases, test}
use Rattle.theory.proofs.Rules.{any_rule-of, occurs-at, passes_at}
use Rattle.theory.specs.Certificate.{kept_depth, kept_in, level}
use Rattle.theory.specs.Slots.{occurs?}
use Rattle.theory.proofs.Certificate.{Certified, certified-admissible, certified-labels}

-- The label that the rows give an atom: absent if no row names it.
lookup : List Row → ℕ → Label
lookup [] a = absent
lookup (l ∷ ls) a = elim (eqb a l.atom) [ true ↦ l.label | false ↦ lookup ls a ]

lookup-here : (l : Row) (ls : List Row) (a : ℕ) → eqb a l.atom ≡ true → lookup (l ∷ ls) a ≡ l.label
unfolding lookup
lookup-here l ls a t = rw (t, lookup)

lookup-next : (l : Row) (ls : List Row) (a : ℕ) → eqb a l.atom ≡ false → lookup (l ∷ ls) a ≡ lookup ls a
unfolding lookup
lookup-next l ls a t = rw (t, lookup)

-- An atom has a line with the label looked up, or none names it and it is absent.
lookup-cases :
    (ls : List Row) (a : ℕ)
    → ((l : Row) × Memᴰ l ls × (l.atom ≡ a) × (lookup ls a ≡ l.label))
    ⊎ ((lookup ls a ≡ absent) × (a ∈ map (λ l. l.atom) ls → ⊥))
lookup-cases [] a = inr (unfold lookup in refl, λ m. Memᴰ.not-nil m)
lookup-cases (l ∷ ls) a = ⊎_elim
    (λ (t : eqb a l.atom ≡ true). inl (l, Memᴰ.head refl, sym (eqb-eq a l.atom t), lookup-here l ls a t))
    (λ (t : eqb a l.atom ≡ false). ⊎_elim
    (λ (w : (q : Row) × Memᴰ q ls × (q.atom ≡ a) × (lookup ls a ≡ q.label)).
    inl (w.0, Memᴰ.tail w.1, w.2, lookup-next l ls a t ∙ w.3))
    (λ (w : (lookup ls a ≡ absent) × (a ∈ map (λ l. l.atom) ls → ⊥)).
    inr (
      lookup-next l ls a t ∙ w.0,
      λ m. ⊎_elim
          (λ (e : a ≡ l.atom). clash (eqb_of a l.atom e) t)
          (λ (i : a ∈ map (λ l. l.atom) ls). w.1 i)
          (Memᴰ.cases_cons m),
    ))
    (lookup-cases ls a))
    (test (eqb a l.atom))

-- Every rule held passes.
unfoldable each_rule : (Rule → Bool) → Program → Bool
each_rule f P = not (any_rule (λ r. not (f r)) P)

each_rule-at : (f : Rule → Bool) (P : Program) → each_rule f P ≡ true → (s : ℕ) (r : Rule) → Held P s r → f r ≡ true
unfolding each_rule
each_rule-at f P t s r h = ⊎_elim
    (λ (u : f r ≡ true). u)
    (λ (u : f r ≡ false). absurd (clash (any_rule-of (λ q. not (f q)) P s r h (ap not u)) (not-true _ t)))
    (test (f r))

-- The conditions of the certificate as tests, for labels given by rows.
module _ (B : Pages) (ls : List Row) where
  abbrev M : AtomSet
  M = kept_in (lookup ls)

  abbrev d : ℕ → ℕ
  d = kept_depth (lookup ls)

  -- a valid rule's head is in, and not deeper than the rule's level
  rule-test : Rule → Bool
  rule-test r = not (valid M r) || (M r.head && leb (d r.head) (level d r))

  -- a valid rule of a whose level is k
  support-rule : ℕ → ℕ → Rule → Bool
  support-rule a k r = eqb r.head a && (valid M r && eqb (level d r) k)

  none_before : ℕ → (ℕ → Bool) → Bool
  none_before zero f = true
  none_before (suc s) f = not (f s) && none_before s f

  label-test : ℕ → Label → Bool
  label-test a absent = false
  label-test a out = occurs? (all B) a
  label-test a (in_at k s) =
      passes (support-rule a k) (get_or (active B) s none)
      && none_before s (λ t. passes (support-rule a k) (get_or (active B) t none))

  certified-test : Bool
  certified-test =
      each_rule rule-test (active B)
      && (each_rule (λ r. every (λ x. mem x (map (λ l. l.atom) ls)) (r.head ∷ entries r)) (all B)
      && every (λ l. label-test l.atom l.label) ls)

  none-before-at : (s : ℕ) (f : ℕ → Bool) → none_before s f ≡ true → (t : ℕ) → t < s → f t ≡ false
  unfolding none_before
  none-before-at zero f u t l = absurd (omega arith)
  none-before-at (suc s) f u t l = ⊎_elim
      (λ (i : s ≤ t). (let e : t ≡ s = omega arith in ap f e ∙ not-true _ (and_l (not (f s)) _ u)))
      (λ (i : t < s). none-before-at s f (and_r (not (f s)) _ u) t i)
      (le-or-lt s t)

  module _ (T : certified-test ≡ true) where
    rules-pass : (s : ℕ) (r : Rule) → Held (active B) s r → rule-test r ≡ true
    unfolding certified-test
    rules-pass = each_rule-at rule-test (active B) (and_l (each_rule rule-test (active B)) _ T)

    rest : (each_rule (λ r. every (λ x. mem x (map (λ l. l.atom) ls)) (r.head ∷ entries r)) (all B)
        && every (λ l. label-test l.atom l.label) ls) ≡ true
    unfolding certified-test
    rest = and_r (each_rule rule-test (active B)) _ T

    named : (a : ℕ) → Occurs (all B) a → a ∈ map (λ l. l.atom) ls
    named a o = mem-in a _ (every-at (λ x. mem x (map (λ l. l.atom) ls)) (o.rule.head ∷ entries o.rule)
        (each_rule-at (λ r. every (λ x. mem x (map (λ l. l.atom) ls)) (r.head ∷ entries r)) (all B)
        (and_l (each_rule (λ r. every (λ x. mem x (map (λ l. l.atom) ls)) (r.head ∷ entries r)) (all B)) _ rest)
        o.slot o.rule o.held) a o.there)

    -- the test of an atom that is not absent was passed
    label-passes : (a : ℕ) (k : Label) → lookup ls a ≡ k → (k ≡ absent → ⊥) → label-test a k ≡ true
    label-passes a k e n = ⊎_elim
        (λ (w : (l : Row) × Memᴰ l ls × (l.atom ≡ a) × (lookup ls a ≡ l.label)).
        ap₂ label-test (sym w.2) (sym e ∙ w.3)
        ∙ every-at (λ l. label-test l.atom l.label) ls (and_r (each_rule
        (λ r. every (λ x. mem x (map (λ l. l.atom) ls)) (r.head ∷ entries r)) (all B)) _ rest) w.0 w.1)
        (λ (w : (lookup ls a ≡ absent) × (a ∈ map (λ l. l.atom) ls → ⊥)). absurd (n (sym e ∙ w.0)))
        (lookup-cases ls a)

    support-parts : (a k : ℕ) (r : Rule) → support-rule a k r ≡ true
        → (r.head ≡ a) × (valid M r ≡ true) × (level d r ≡ k)
    unfolding support-rule
    support-parts a k r t =
        let u = and_r (eqb r.head a) (valid M r && eqb (level d r) k) t in
        (eqb-eq _ _ (and_l (eqb r.head a) _ t), and_l (valid M r) _ u, eqb-eq _ _ (and_r (valid M r) _ u))

    support-of : (a k : ℕ) (r : Rule) → r.head ≡ a → valid M r ≡ true → level d r ≡ k → support-rule a k r ≡ true
    unfolding support-rule
    support-of a k r e v l = and-of _ _ (eqb_of _ _ e) (and-of _ _ v (eqb_of _ _ l))

    in_parts : (a k s : ℕ) → lookup ls a ≡ in_at k s
        → (passes (support-rule a k) (get_or (active B) s none) ≡ true)
        × (none_before s (λ t. passes (support-rule a k) (get_or (active B) t none)) ≡ true)
    unfolding label-test
    in_parts a k s e =
        let t = label-passes a (in_at k s) e (λ q. (let z : ◌≡◌ {A = ℕ} 0 1 = cc in omega arith)) in
        let here = passes (support-rule a k) (get_or (active B) s none) in
        (and_l here _ t, and_r here _ t)

    valid-head : (s : ℕ) (r : Rule) → Held (active B) s r → valid M r ≡ true
        → (M r.head && leb (d r.head) (level d r)) ≡ true
    unfolding rule-test
    valid-head s r h v = ⊎_elim
        (λ (t : not (valid M r) ≡ true). absurd (clash v (not-true _ t)))
        (λ (t : (M r.head && leb (d r.head) (level d r)) ≡ true). t)
        (or_cases (not (valid M r)) _ (rules-pass s r h))

    test-certified : Certified B (lookup ls)
    test-certified = record {
      closed = λ s r h v. and_l (M r.head) _ (valid-head s r h v);
      least = λ s r h v. leb-le _ _ (and_r (M r.head) _ (valid-head s r h v));
      supported = λ a k s e. (
          let w = passes_at (support-rule a k) (get_or (active B) s none) (in_parts a k s e).0 in
          let z = support-parts a k w.0 w.2 in
          (w.0, w.1, z.0, z.1, z.2));
      lowest = λ a k s e t l r h q v i. clash
          (ap (passes (support-rule a k)) h ∙ support-of a k r q v i)
          (none-before-at s (λ t. passes (support-rule a k) (get_or (active B) t none)) (in_parts a k s e).1 t l);
      out_occurs = λ a e. out-test a (label-passes a out e (λ q. (let z : ◌≡◌ {A = ℕ} 0 1 = cc in omega arith)));
      absent_missing = λ a e o. ⊎_elim
          (λ (w : (l : Row) × Memᴰ l ls × (l.atom ≡ a) × (lookup ls a ≡ l.label)). no-absent w e)
          (λ (w : (lookup ls a ≡ absent) × (a ∈ map (λ l. l.atom) ls → ⊥)). w.1 (named a o))
          (lookup-cases ls a);
    }
      where
        out-test : (a : ℕ) → label-test a out ≡ true → Occurs (all B) a
        out-test a t = occurs-at (all B) a (unfold label-test in t)

        no-absent : {a : ℕ} → (l : Row) × Memᴰ l ls × (l.atom ≡ a) × (lookup ls a ≡ l.label)
            → lookup ls a ≡ absent → ⊥
        no-absent w e =
            let t = every-at (λ l. label-test l.atom l.label) ls (and_r (each_rule
            (λ r. every (λ x. mem x (map (λ l. l.atom) ls)) (r.head ∷ entries r)) (all B)) _ rest) w.0 w.1 in
            true≢false (sym t ∙ ap (label-test w.0.atom) (sym w.3 ∙ e) ∙ (unfold label-test in refl))

-- Labels and answers compared.

same-label : Label → Label → Bool
same-label absent absent = true
same-label absent out = false
same-label absent (in_at d s) = false
same-label out absent = false
same-label out out = true
same-label out (in_at d s) = false
same-label (in_at e t) absent = false
same-label (in_at e t) out = false
same-label (in_at e t) (in_at d s) = eqb e d && eqb t s

same-label-eq : (k l : Label) → same-label k l ≡ true → k ≡ l
unfolding same-label
same-label-eq absent absent t = refl
same-label-eq absent out t = absurd (true≢false (sym t))
same-label-eq absent (in_at d s) t = absurd (true≢false (sym t))
same-label-eq out absent t = absurd (true≢false (sym t))
same-label-eq out out t = refl
same-label-eq out (in_at d s) t = absurd (true≢false (sym t))
same-label-eq (in_at e u) absent t = absurd (true≢false (sym t))
same-label-eq (in_at e u) out t = absurd (true≢false (sym t))
same-label-eq (in_at e u) (in_at d s) t =
    ap₂ in_at (eqb-eq e d (and_l (eqb e d) _ t)) (eqb-eq u s (and_r (eqb e d) _ t))

same_answer : Answer → Answer → Bool
same_answer (refused j) (refused k) = eqb j k
same_answer (refused j) (slot s) = false
same_answer (refused j) accepted = false
same_answer (slot t) (refused k) = false
same_answer (slot t) (slot s) = eqb t s
same_answer (slot t) accepted = false
same_answer accepted (refused k) = false
same_answer accepted (slot s) = false
same_answer accepted accepted = true

same-answer-eq : (x y : Answer) → same_answer x y ≡ true → x ≡ y
unfolding same_answer
same-answer-eq (refused j) (refused k) t = ap refused (eqb-eq j k t)
same-answer-eq (refused j) (slot s) t = absurd (true≢false (sym t))
same-answer-eq (refused j) accepted t = absurd (true≢false (sym t))
same-answer-eq (slot u) (refused k) t = absurd (true≢false (sym t))
same-answer-eq (slot u) (slot s) t = ap slot (eqb-eq u s t)
same-answer-eq (slot u) accepted t = absurd (true≢false (sym t))
same-answer-eq accepted (refused k) t = absurd (true≢false (sym t))
same-answer-eq accepted (slot s) t = absurd (true≢false (sym t))
same-answer-eq accepted accepted t = refl

same-answers : List Answer → List Answer → Bool
same-answers [] [] = true
same-answers [] (y ∷ ys) = false
same-answers (x ∷ xs) [] = false
same-answers (x ∷ xs) (y ∷ ys) = same_answer x y && same-answers xs ys

same-answers-eq : (xs ys : List Answer) → same-answers xs ys ≡ true → xs ≡ ys
unfolding same-answers
same-answers-eq [] [] t = refl
same-answers-eq [] (y ∷ ys) t = absurd (true≢false (sym t))
same-answers-eq (x ∷ xs) [] t = absurd (true≢false (sym t))
same-answers-eq (x ∷ xs) (y ∷ ys) t =
    ap₂ ◌∷◌ (same-answer-eq x y (and_l (same_answer x y) _ t)) (same-answers-eq xs ys (and_r (same_answer x y) _ t))

-- What an example shows, as a test.

example-test : Example → Bool
example-test e =
    same-answers (answers document (empty document) e.calls) e.told
    && (certified-test (left e) e.rows
    && every (λ l. same-label (lookup e.rows l.atom) l.label) e.rows)

example-shows : (e : Example) → example-test e ≡ true → Shows e
unfolding example-test
example-shows e t =
    let told = same-answers (answers document (empty document) e.calls) e.told in
    let cert = certified-test (left e) e.rows in
    let u = and_r told (cert && every (λ l. same-label (lookup e.rows l.atom) l.label) e.rows) t in
    let C = test-certified (left e) e.rows (and_l cert _ u) in
    let label : (a : ℕ) → Labelled (left e) (kept_in (lookup e.rows)) a (lookup e.rows a) =
    certified-labels (left e) (lookup e.rows) C in
    record {
      answered = same-answers-eq _ _ (and_l told _ t);
      model = kept_in (lookup e.rows);
      admissible = certified-admissible (left e) (lookup e.rows) C;
      labels = λ l m. subst (Labelled (left e) (kept_in (lookup e.rows)) l.atom)
          (same-label-eq _ _ (every-at (λ l. same-label (lookup e.rows l.atom) l.label) e.rows
          (and_r cert _ u) l m)) (label l.atom);
      others = λ a n. ⊎_elim
          (λ (w : (l : Row) × Memᴰ l e.rows × (l.atom ≡ a) × (lookup e.rows a ≡ l.label)).
          absurd (n (subst (λ (z : ℕ). z ∈ map (λ l. l.atom) e.rows) w.2
          (Memᴰ.map (λ l. l.atom) w.1))))
          (λ (w : (lookup e.rows a ≡ absent) × (a ∈ map (λ l. l.atom) e.rows → ⊥)).
          subst (Labelled (left e) (kept_in (lookup e.rows)) a) w.0 (label a))
          (lookup-cases e.rows a);
    }

-- The small tables show what the specification says of them (specification 10.1 and 10.2).
pub tables-shown : (e : Example) → Memᴰ e tables → Shows e
unfolding tables every any distinct same_members insert sort same first_no lowest_free rules reaches stratified answer
    after answers after_all valid greatest occurs? each_rule rule-test support-rule none_before label-test
    certified-test same-label same_answer same-answers example-test lookup
tables-shown = λ e m. example-shows e (every-at example-test tables refl e m)
