-- Edges put one behind another, those of the slots, and what they lead to. Assumes nothing.
use Prim.Native.Nat.{ℕ, ◌+◌, ◌*◌, ◌≤◌, ◌<◌}
use native.Mathlib.Omega.{arith}
use native.Mathlib.Numerals.{add-one}
use mathlib.Core.Path.{◌≡◌, refl, sym, ◌∙◌, ap, subst}
use mathlib.Core.Logic.{◌⊎◌, inl, inr, ⊎_elim, ◌↔◌}
use mathlib.Core.Bool.{Bool, true, false}
use mathlib.Core.List.Memᴰ
use mathlib.Core.List.{List, [], ◌∷◌, ◌++◌, map-append}
use mathlib.Core.Option.{Option, none, some, some-injective, none-ne-some}
use lib.ListN.{length, get_or, take, length-set}
use lib.Seq.{take-suc, get_or-set_same, get_or-set_other}
use Rattle.theory.specs.Lists.{◌∈◌, Steps, one, more}
use Rattle.theory.specs.Rules.{Rule, Program, entries, Bounded}
use Rattle.theory.specs.Models.{AtomSet}
use Rattle.theory.specs.Labels.{Supporting, Spoiler, spoiler}
use Rattle.theory.specs.Explanations.{Affected, Repercussion}
use Rattle.theory.specs.Explanations as explained
use Rattle.theory.specs.Limits.{document}
use Rattle.theory.proofs.Lists.{le-or-lt, clash}
use Rattle.theory.proofs.Rules.{held-unique}
use Rattle.theory.proofs.Questions.{held_below}
use Rattle.theory.proofs.Labels.{supporting-unique, spoils, spoiler-entry}
use Rattle.table.specs.declared.Atom.{Atom}
use Rattle.table.specs.Rules.{numbers, no_atom}
use Rattle.reach.specs.Edges.{Edge, Reached}
use Rattle.repercussions.specs.Edges.{Stands, AddedEdge, Grown, FromEntries, Gives}
use Rattle.repercussions.specs.Edges as edges
use Rattle.table.specs.Sets.{Flags}

-- The same steps, told otherwise.
steps_map :
    {S T : ℕ → ℕ → Type 0} {a c : ℕ} → ((x h : ℕ) → S x h → T x h) → Steps S a c → Steps T a c
steps_map f (one {a = a} {c = c} t) = one (f a c t)
steps_map f (more {a = a} {x = x} t u) = more (f a x t) (steps_map f u)

-- One edge more.
pub stands-added :
    {a c n n' : ℕ} {from to from' to' : List ℕ} → AddedEdge a c from to n from' to' n' → (x h : ℕ)
    → Stands from' to' n' x h ↔ (Stands from to n x h ⊎ ((x ≡ a) × (h ≡ c)))
stands-added {a} {c} {n} {n'} {from} {to} {from'} {to'} A x h = (
  λ w. ⊎_elim
      (λ (l : n ≤ w.index). (
      let e : w.index ≡ n = omega (arith, w.counted, A.one_more) in
      inr (
        sym w.leaves ∙ ap (λ (k : ℕ). get_or from' k 0) e ∙ at_from,
        sym w.enters ∙ ap (λ (k : ℕ). get_or to' k 0) e ∙ at-to,
      )))
      (λ (l : w.index < n). inl (record {
        index = w.index;
        counted = l;
        leaves = sym (other_from w.index l) ∙ w.leaves;
        enters = sym (other-to w.index l) ∙ w.enters;
      }))
      (le-or-lt n w.index),
  λ s. ⊎_elim
      (λ (w : Stands from to n x h). record {
        index = w.index;
        counted = omega (arith, w.counted, A.one_more);
        leaves = other_from w.index w.counted ∙ w.leaves;
        enters = other-to w.index w.counted ∙ w.enters;
      })
      (λ (w : (x ≡ a) × (h ≡ c)). record {
        index = n;
        counted = omega (arith, A.one_more);
        leaves = at_from ∙ sym w.0;
        enters = at-to ∙ sym w.1;
      })
      s,
)
  where
    at_from : get_or from' n 0 ≡ a
    at_from = ap (λ (xs : List ℕ). get_or xs n 0) A.leaves ∙ get_or-set_same from n a 0 A.room_from

    at-to : get_or to' n 0 ≡ c
    at-to = ap (λ (xs : List ℕ). get_or xs n 0) A.enters ∙ get_or-set_same to n c 0 A.room_to

    other_from : (k : ℕ) → k < n → get_or from' k 0 ≡ get_or from k 0
    other_from k l = ap (λ (xs : List ℕ). get_or xs k 0) A.leaves ∙ get_or-set_other from n k a 0 (λ e. omega arith)

    other-to : (k : ℕ) → k < n → get_or to' k 0 ≡ get_or to k 0
    other-to k l = ap (λ (xs : List ℕ). get_or xs k 0) A.enters ∙ get_or-set_other to n k c 0 (λ e. omega arith)

-- A slot that gives no edge, and one that gives a single edge.
module _ (S : ℕ → ℕ → Type 0) (from to : List ℕ) (n : ℕ) where
  pub grown-none : ((x h : ℕ) → S x h → ⊥) → Grown S from to n from to n
  grown-none f = record {
    few = omega arith;
    size_from = refl;
    size_to = refl;
    exactly = λ x h. (λ w. inl w, λ s. ⊎_elim (λ (w : Stands from to n x h). w) (λ (w : S x h). absurd (f x h w)) s);
  }

  pub grown-one :
      {a c n' : ℕ} {from' to' : List ℕ} → AddedEdge a c from to n from' to' n' → S a c
      → ((x h : ℕ) → S x h → (x ≡ a) × (h ≡ c)) → Grown S from to n from' to' n'
  grown-one {a} {c} {n'} {from'} {to'} A s only = record {
    few = omega (arith, A.one_more);
    size_from = ap length A.leaves ∙ length-set from n a;
    size_to = ap length A.enters ∙ length-set to n c;
    exactly = λ x h. (
      λ w. ⊎_elim
          (λ (v : Stands from to n x h). inl v)
          (λ (v : (x ≡ a) × (h ≡ c)). inr (rw (v.0, v.1) s))
          ((stands-added A x h).0 w),
      λ w. (stands-added A x h).1 (⊎_elim
          (λ (v : Stands from to n x h). inl v)
          (λ (v : S x h). inr (only x h v))
          w),
    );
  }

  -- the same edges, told otherwise
  pub grown-same :
      (T : ℕ → ℕ → Type 0) {n' : ℕ} {from' to' : List ℕ} → ((x h : ℕ) → S x h → T x h) → ((x h : ℕ) → T x h → S x h)
      → Grown S from to n from' to' n' → Grown T from to n from' to' n'
  grown-same T f g G = record {
    few = G.few;
    size_from = G.size_from;
    size_to = G.size_to;
    exactly = λ x h. (
      λ w. ⊎_elim
          (λ (v : Stands from to n x h). inl v)
          (λ (v : S x h). inr (f x h v))
          ((G.exactly x h).0 w),
      λ w. (G.exactly x h).1 (⊎_elim
          (λ (v : Stands from to n x h). inl v)
          (λ (v : T x h). inr (g x h v))
          w),
    );
  }

-- The numbers of the first j + 1 entries.
module _ (xs : List Atom) (j : ℕ) (l : j < length xs) where
  front : numbers (take (j + 1) xs) ≡ numbers (take j xs) ++ ((get_or xs j no_atom).0 ∷ [])
  front = rw (add-one, take-suc xs j no_atom) (map-append (λ (a : Atom). a.0) (take j xs) (get_or xs j no_atom ∷ []))

  front-cases : (x : ℕ) → x ∈ numbers (take (j + 1) xs) → (x ∈ numbers (take j xs)) ⊎ (x ≡ (get_or xs j no_atom).0)
  front-cases x m = ⊎_elim
      (λ (i : x ∈ numbers (take j xs)). inl i)
      (λ (i : x ∈ (get_or xs j no_atom).0 ∷ []). inr (Memᴰ.eq_of_singleton i))
      (Memᴰ.append_cases (numbers (take j xs)) (rw front at m))

-- Edges from the first j entries to the head c were put behind the first n.
pub record Entering (c : ℕ) (xs : List Atom) (j : ℕ) (from to : List ℕ) (n : ℕ) (from' to' : List ℕ) (n' : ℕ)
    : Type 0 where
  pub counted : n' ≡ n + j
  pub size_from : length from' ≡ length from
  pub size_to : length to' ≡ length to
  pub exactly :
      (x h : ℕ) → Stands from' to' n' x h ↔ (Stands from to n x h ⊎ ((x ∈ numbers (take j xs)) × (c ≡ h)))

pub entering-start : (c : ℕ) (xs : List Atom) (from to : List ℕ) (n : ℕ) → Entering c xs 0 from to n from to n
entering-start c xs from to n = record {
  counted = omega arith;
  size_from = refl;
  size_to = refl;
  exactly = λ x h. (
    λ w. inl w,
    λ s. ⊎_elim
        (λ (w : Stands from to n x h). w)
        (λ (w : (x ∈ []) × (c ≡ h)). absurd (Memᴰ.not-nil w.0))
        s,
  );
}

pub entering-next :
    {c n n' n'' : ℕ} (xs : List Atom) (j : ℕ) {from to from' to' from'' to'' : List ℕ} → j < length xs
    → Entering c xs j from to n from' to' n' → AddedEdge (get_or xs j no_atom).0 c from' to' n' from'' to'' n''
    → Entering c xs (j + 1) from to n from'' to'' n''
entering-next {c} {n} {n'} {n''} xs j {from} {to} {from'} {to'} {from''} {to''} l E A = record {
  counted = omega (arith, E.counted, A.one_more);
  size_from = ap length A.leaves ∙ length-set from' n' _ ∙ E.size_from;
  size_to = ap length A.enters ∙ length-set to' n' _ ∙ E.size_to;
  exactly = λ x h. (
    λ w. ⊎_elim
        (λ (v : Stands from' to' n' x h). ⊎_elim
        (λ (u : Stands from to n x h). inl u)
        (λ (u : (x ∈ numbers (take j xs)) × (c ≡ h)).
        inr (rw (front xs j l) (Memᴰ.append_left ((get_or xs j no_atom).0 ∷ []) u.0), u.1))
        ((E.exactly x h).0 v))
        (λ (v : (x ≡ (get_or xs j no_atom).0) × (h ≡ c)).
        inr (rw (front xs j l) (Memᴰ.append_right (numbers (take j xs)) (Memᴰ.head v.0)), sym v.1))
        ((stands-added A x h).0 w),
    λ s. (stands-added A x h).1 (⊎_elim
        (λ (w : Stands from to n x h). inl ((E.exactly x h).1 (inl w)))
        (λ (w : (x ∈ numbers (take (j + 1) xs)) × (c ≡ h)). ⊎_elim
        (λ (u : x ∈ numbers (take j xs)). inl ((E.exactly x h).1 (inr (u, w.1))))
        (λ (u : x ≡ (get_or xs j no_atom).0). inr (u, sym w.1))
        (front-cases xs j l x w.0))
        s),
  );
}

pub entering-over :
    (r : Rule) (xs : List Atom) (j : ℕ) {n n' : ℕ} {from to from' to' : List ℕ} → j ≤ document.entries
    → numbers (take j xs) ≡ entries r → Entering r.head xs j from to n from' to' n'
    → Grown (FromEntries r) from to n from' to' n'
entering-over r xs j {n} {n'} {from} {to} {from'} {to'} l e E = record {
  few = omega (arith, E.counted);
  size_from = E.size_from;
  size_to = E.size_to;
  exactly = λ x h. (
    λ w. ⊎_elim
        (λ (v : Stands from to n x h). inl v)
        (λ (v : (x ∈ numbers (take j xs)) × (r.head ≡ h)). inr (record { there = rw e at v.0; heads = v.1 }))
        ((E.exactly x h).0 w),
    λ s. (E.exactly x h).1 (⊎_elim
        (λ (w : Stands from to n x h). inl w)
        (λ (w : FromEntries r x h). inr (rw e w.there, w.heads))
        s),
  );
}

-- What a slot gives: o holds the rule q.
module _ (M : AtomSet) (s : ℕ → ℕ) (i : ℕ) (o : Option Rule) where
  pub gives-free : o ≡ none → (x h : ℕ) → Gives M s i o x h → ⊥
  gives-free e x h (edges.entry r u t k F) = (let z : ◌≡◌ {A = ℕ} 0 1 = cc in omega arith)
  gives-free e x h (edges.spoils r z u t k m d) = (let z : ◌≡◌ {A = ℕ} 0 1 = cc in omega arith)

  module _ (q : Rule) (held : o ≡ some q) where
    same : (r : Rule) → o ≡ some r → q ≡ r
    same r e = some-injective q r (sym held ∙ e)

    -- the head is in, and another slot supports it
    pub gives_other : M q.head ≡ true → (s q.head ≡ i → ⊥) → (x h : ℕ) → Gives M s i o x h → ⊥
    gives_other t n x h (edges.entry r u v k F) =
        n (ap s (ap (λ (z : Rule). z.head) (same r u) ∙ F.heads) ∙ k)
    gives_other t n x h (edges.spoils r z u v k m d) =
        clash t (ap M (ap (λ (z : Rule). z.head) (same r u) ∙ k) ∙ v)

    -- the head is in, and this slot supports it
    pub gives-entries : M q.head ≡ true → s q.head ≡ i → (x h : ℕ) → FromEntries q x h → Gives M s i o x h
    gives-entries t k x h F =
        edges.entry q held (ap M (sym F.heads) ∙ t) (ap s (sym F.heads) ∙ k) F

    pub entries-give : M q.head ≡ true → (x h : ℕ) → Gives M s i o x h → FromEntries q x h
    entries-give t x h (edges.entry r u v k F) = subst (λ (z : Rule). FromEntries z x h) (sym (same r u)) F
    entries-give t x h (edges.spoils r z u v k m d) =
        absurd (clash t (ap M (ap (λ (z : Rule). z.head) (same r u) ∙ k) ∙ v))

    -- the head is out: the spoiler's atom, if there is one
    pub gives-spoiler :
        M q.head ≡ false → (x h : ℕ) → Gives M s i o x h
        → (z : Spoiler) × (spoiler M q ≡ some z) × (z.atom ≡ x) × (h ≡ q.head)
    gives-spoiler t x h (edges.entry r u v k F) =
        absurd (clash (ap M (ap (λ (z : Rule). z.head) (same r u) ∙ F.heads) ∙ v) t)
    gives-spoiler t x h (edges.spoils r z u v k m d) =
        (z, ap (spoiler M) (same r u) ∙ m, d, sym (ap (λ (z : Rule). z.head) (same r u) ∙ k))

    pub gives_nothing : M q.head ≡ false → spoiler M q ≡ none → (x h : ℕ) → Gives M s i o x h → ⊥
    gives_nothing t e x h g = (let w = gives-spoiler t x h g in none-ne-some w.0 (sym e ∙ w.1))

    pub gives_one :
        M q.head ≡ false → (z : Spoiler) → spoiler M q ≡ some z → (x h : ℕ) → Gives M s i o x h
        → (x ≡ z.atom) × (h ≡ q.head)
    gives_one t z e x h g =
        let w = gives-spoiler t x h g in
        let one : w.0 ≡ z = some-injective w.0 z (sym w.1 ∙ e) in
        (sym w.2 ∙ ap (λ (y : Spoiler). y.atom) one, w.3)

    pub spoiler-edge :
        (from to from' to' : List ℕ) (n n' : ℕ) → M q.head ≡ false → (z : Spoiler) → spoiler M q ≡ some z
        → AddedEdge z.atom q.head from to n from' to' n' → Grown (Gives M s i o) from to n from' to' n'
    spoiler-edge from to from' to' n n' t z e A =
        grown-one (Gives M s i o) from to n A (edges.spoils q z held t refl e refl) (gives_one t z e)

-- The slots below i make x affect h.
pub record Given (P : Program) (M : AtomSet) (s : ℕ → ℕ) (i x h : ℕ) : Type 0 where
  pub slot : ℕ
  pub low : slot < i
  pub gives : Gives M s slot (get_or P slot none) x h

-- The edges so far are those of the slots below i. There is room for so many.
pub record Giving (P : Program) (M : AtomSet) (s : ℕ → ℕ) (room i : ℕ) (from to : List ℕ) (n : ℕ) : Type 0 where
  pub size_from : length from ≡ room
  pub size_to : length to ≡ room
  pub few : n ≤ i * document.entries
  pub exactly : (x h : ℕ) → Stands from to n x h ↔ Given P M s i x h

module _ (P : Program) (M : AtomSet) (s : ℕ → ℕ) (room : ℕ) where
  pub giving-start : (from to : List ℕ) → length from ≡ room → length to ≡ room → Giving P M s room 0 from to 0
  giving-start from to f t = record {
    size_from = f;
    size_to = t;
    few = omega arith;
    exactly = λ x h. (λ w. absurd (omega (arith, w.counted)), λ g. absurd (omega (arith, g.low)));
  }

  pub giving-next :
      (i : ℕ) {n n' : ℕ} {from to from' to' : List ℕ} → Giving P M s room i from to n
      → Grown (Gives M s i (get_or P i none)) from to n from' to' n' → Giving P M s room (i + 1) from' to' n'
  giving-next i {n} {n'} {from} {to} {from'} {to'} W G = record {
    size_from = G.size_from ∙ W.size_from;
    size_to = G.size_to ∙ W.size_to;
    few = omega (arith, W.few, G.few);
    exactly = λ x h. (
      λ w. ⊎_elim
          (λ (v : Stands from to n x h). (
          let g = (W.exactly x h).0 v in
          record { slot = g.slot; low = omega (arith, g.low); gives = g.gives }))
          (λ (v : Gives M s i (get_or P i none) x h). record { slot = i; low = omega arith; gives = v })
          ((G.exactly x h).0 w),
      λ g. (G.exactly x h).1 (⊎_elim
          (λ (l : i ≤ g.slot). (
          let e : g.slot ≡ i = omega (arith, g.low) in
          inr (subst (λ (k : ℕ). Gives M s k (get_or P k none) x h) e g.gives)))
          (λ (l : g.slot < i). inl ((W.exactly x h).1 (record { slot = g.slot; low = l; gives = g.gives })))
          (le-or-lt i g.slot)),
    );
  }

  -- They are the steps from an atom to one that it affects, where s has the supporting slots.
  module _ (B : Bounded P document.atoms) (supports : (h : ℕ) → M h ≡ true → Supporting P M h (s h)) where
    given-affected : (i x h : ℕ) → Given P M s i x h → Affected P M x h
    given-affected i x h g = go g.gives
      where
        go : Gives M s g.slot (get_or P g.slot none) x h → Affected P M x h
        go (edges.entry r u t k F) =
            explained.entry g.slot r t (subst (λ (z : ℕ). Supporting P M h z) k (supports h t)) u F.there
        go (edges.spoils r z u t k m d) = explained.spoils g.slot r z t u k m d

    affected-given : (i x h : ℕ) → length P ≤ i → Affected P M x h → Given P M s i x h
    affected-given i x h l (explained.entry k r t S held m) = record {
      slot = k;
      low = omega (arith, held_below P k r held);
      gives = edges.entry r held t (supporting-unique P M h (s h) k (supports h t) S) (record {
        there = m;
        heads = ap (λ (z : Rule). z.head) (held-unique P k r S.supports.rule held S.supports.held)
            ∙ S.supports.heads;
      });
    }
    affected-given i x h l (explained.spoils k r z t held e m d) = record {
      slot = k;
      low = omega (arith, held_below P k r held);
      gives = edges.spoils r z held t e m d;
    }

    affected-atoms : (x h : ℕ) → Affected P M x h → (x < document.atoms) × (h < document.atoms)
    affected-atoms x h (explained.entry k r t S held m) = (
      B k r held x (Memᴰ.tail m),
      B k S.supports.rule S.supports.held h (Memᴰ.head (sym S.supports.heads)),
    )
    affected-atoms x h (explained.spoils k r z t held e m d) = (
      B k r held x (Memᴰ.tail
          (subst (λ (y : ℕ). y ∈ entries r) d (spoiler-entry M r z (spoils M r z m)))),
      B k r held h (Memᴰ.head (sym e)),
    )

    -- What the edges lead to are the repercussions.
    pub giving-over :
        (i : ℕ) {n a : ℕ} {from to : List ℕ} (flags : List Bool) → length P ≤ i → n ≤ room
        → Giving P M s room i from to n → Reached from to n a (λ x. get_or flags x false)
        → Flags flags (Repercussion P M a)
    giving-over i {n} {a} {from} {to} flags l k W R x = (
      λ t. steps_map there ((R x).0 t),
      λ S. (R x).1 (steps_map back S),
    )
      where
        there : (x h : ℕ) → Edge from to n x h → Affected P M x h
        there x h e = given-affected i x h ((W.exactly x h).0 (record {
          index = e.index;
          counted = e.counted;
          leaves = e.leaves;
          enters = e.enters;
        }))

        back : (x h : ℕ) → Affected P M x h → Edge from to n x h
        back x h A =
            let w = (W.exactly x h).1 (affected-given i x h l A) in
            let b = affected-atoms x h A in
            record {
              index = w.index;
              counted = w.counted;
              in_from = omega (arith, w.counted, W.size_from);
              in_to = omega (arith, w.counted, W.size_to);
              leaves = w.leaves;
              enters = w.enters;
              atom_from = b.0;
              atom_to = b.1;
            }
