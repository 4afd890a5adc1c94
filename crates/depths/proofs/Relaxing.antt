-- Depths by rounds over the slots: the number of a head falls to the level of a valid rule of it. What a pass keeps at
-- each slot, and what the first round that lowers none has found. Assumes nothing. The number of atoms is a parameter.
-- The idea (Bellman and Ford): each number kept is the height of some derivation, and after k rounds it is at most that
-- of every derivation of at most k levels. A depth is at most the number n of atoms, so that after n rounds none falls.
use Prim.Native.Nat.{ℕ, zero, suc, ◌+◌, ◌≤◌, ◌<◌}
use native.Mathlib.Omega.{arith}
use native.Mathlib.Decide.{ℕ_discrete}
use mathlib.Core.Path.{◌≡◌, refl, sym, ◌∙◌, ap, subst}
use mathlib.Core.Bool.{Bool, true, false, true≢false, ◌||◌}
use mathlib.Core.Logic.{◌⊎◌, inl, inr}
use mathlib.Core.List.Memᴰ
use mathlib.Core.List.{List, [], ◌∷◌}
use mathlib.Core.Option.{Option, none, some}
use borrow.Author.Count.{below_more}
use lib.ListN.{length, get_or, set, replicate, length-set, length-replicate, get_or-map}
use lib.Seq.{get_or-set_same, get_or-set_other}
use Rattle.theory.specs.Lists.{◌∈◌}
use Rattle.theory.specs.Rules.{active_on, Rule, Program, Held, Bounded}
use Rattle.theory.specs.Models.{AtomSet, valid, Admissible}
use Rattle.theory.specs.Derivations.{by, Depth, Derivation, Derivations}
use Rattle.theory.specs.Certificate.{level}
use Rattle.theory.proofs.Lists.{clash, every-at, every_of, le-or-lt}
use Rattle.theory.proofs.Rules.{held-unique}
use Rattle.theory.proofs.Pages.{active-at}
use Rattle.theory.proofs.Derivations.{entry, last}
use Rattle.theory.proofs.Depths.{depth-count, derived-in, greatest-le, in-depth}
use Rattle.theory.proofs.Certificate.{derivations-of}
use Rattle.theory.proofs.Questions.{held_below}
use Rattle.table.specs.declared.Rule as table
use Rattle.table.specs.Rules.{active_of, active_in, book_of, page_of, past_rule}
use Rattle.table.specs.Clean.{free_rule}
use Rattle.table.specs.Sets.{number}
use Rattle.table.specs.Turns.{slot_at}
use Rattle.table.proofs.Members.{all_alike}
use Rattle.table.proofs.SlotsInTurn.{slot-at-each}
use Rattle.table.proofs.Programs.{active-place, active-length}
use Rattle.depths.specs.Numbers.{DepthsOf, within}
use Rattle.depths.specs.Passes.{Found, Lowers, Lowered}
use Rattle.depths.proofs.Slots.{slot-head, within-at, within_of}

-- Within the next round, which comes to the slots `at 0`, `at 1`, .. and has come to i of them: t says whether it has
-- lowered a number. It does only if fewer than n rounds came before.
pub record Pass (P : Program) (M : AtomSet) (at : ℕ → ℕ) (n k i : ℕ) (d : List ℕ) (t : Bool) : Type 0 where
  pub found : Found P M n k d
  pub visited :
      (j : ℕ) (r : Rule) → j < i → Held P (at j) r → valid M r ≡ true → (h : ℕ) → h ≤ k → h < n
      → Derivations P M r.positives h → (0 < number d r.head) × (number d r.head ≤ suc h)
  pub rests :
      t ≡ false → (j : ℕ) (r : Rule) → j < i → Held P (at j) r → Lowers M (number d) n (some r) r.head → ⊥
  pub early : t ≡ true → k < n

-- The rounds go on while one lowers, and then the depths are found.
abbrev pub Outer : Program → AtomSet → ℕ → ℕ → List ℕ → Bool → Type 0
Outer P M n k d true = Found P M n k d
Outer P M n k d false = DepthsOf P M (number d)

-- The law for a rule read from a slot of the table.
pub read_at : (rules : List table.Rule) (s : ℕ) (rule : table.Rule) → rule ≡ get_or rules s past_rule
    → get_or (active_of rules) s none ≡ active_in rule
read_at rules s rule read = active-place rules s ∙ ap active_in (sym read)

pub rounds-start : (P : Program) (M : AtomSet) (n : ℕ) → Outer P M n 0 (replicate n 0) true
rounds-start P M n = record {
  few = omega arith;
  long = length-replicate n 0;
  low = λ a. omega (arith, all_alike {A = ℕ} n a 0);
  derived = λ a l. absurd (omega (arith, all_alike {A = ℕ} n a 0));
  full = λ a h D l. absurd (omega (arith, (last D).height));
}

pub pass-start :
    (P : Program) (M : AtomSet) (at : ℕ → ℕ) (n k : ℕ) (d : List ℕ) (go : Bool) → go ≡ true → Outer P M n k d go
    → Pass P M at n k 0 d false
pass-start P M at n k d false g W = absurd (true≢false (sym g))
pass-start P M at n k d true g W = record {
  found = W;
  visited = λ j r l. absurd (omega arith);
  rests = λ q j r l. absurd (omega arith);
  early = λ q. absurd (true≢false (sym q));
}

-- A slot that does not lower its head: the head has a number, and none above the rule's level.
not-lowers :
    (M : AtomSet) (d : ℕ → ℕ) (n : ℕ) (r : Rule) → (Lowers M d n (some r) r.head → ⊥) → valid M r ≡ true
    → ((p : ℕ) → p ∈ r.positives → (0 < d p) × (d p ≤ n)) → level d r ≤ n
    → (0 < d r.head) × (d r.head ≤ level d r)
not-lowers M d n r not v known low = (
  elim (le-or-lt (d r.head) 0) [ inl z ↦ absurd (not (lowers (inl (omega arith)))) | inr z ↦ z ],
  elim (le-or-lt (d r.head) (level d r)) [ inl z ↦ z | inr z ↦ absurd (not (lowers (inr z))) ],
)
  where
    lowers : (d r.head ≡ 0) ⊎ (level d r < d r.head) → Lowers M d n (some r) r.head
    lowers less = record {
      rule = r;
      held = refl;
      good = v;
      known = every_of (within d (suc n)) r.positives
          (λ p m. within_of d (suc n) p (λ z. omega (arith, (known p m).0)) (omega (arith, (known p m).1)));
      low = low;
      less = less;
    }

-- The atoms below n.
upto : ℕ → List ℕ
upto zero = []
upto (suc n) = n ∷ upto n

upto-long : (n : ℕ) → length (upto n) ≡ n
unfolding upto
upto-long zero = refl
upto-long (suc n) = ap suc (upto-long n)

upto-has : (n x : ℕ) → x < n → x ∈ upto n
unfolding upto
upto-has zero x l = absurd (omega arith)
upto-has (suc n) x l = elim (ℕ_discrete x n) [
  | yes q ↦ Memᴰ.head q
  | no q ↦ Memᴰ.tail (upto-has n x (omega arith))
]

module _ (P : Program) (M : AtomSet) (n : ℕ) (B : Bounded P n) (A : Admissible P M) where
  -- A depth is at most the number of atoms.
  depth-few : (a k : ℕ) → Depth P M a k → k ≤ n
  depth-few a k D = omega (
    arith,
    upto-long n,
    depth-count P M A.founded (upto n) (λ x m. upto-has n x (in-below x m)) a k
        (derived-in A.closed D.reached) D,
  )
    where
      in-below : (x : ℕ) → M x ≡ true → x < n
      in-below x m =
          let w = last (in-depth P M A.founded x m).1.reached in
          omega (arith, B w.slot w.rule w.held w.rule.head (Memᴰ.head refl), w.heads)

  -- The entries of derivations of at most k levels are known, and the level of their rule is as low.
  module _ (k : ℕ) (d : List ℕ) (F : Found P M n k d) (r : Rule) (u : ℕ) (l : u ≤ k)
      (D : Derivations P M r.positives u) where
    entries-known : (p : ℕ) → p ∈ r.positives → (0 < number d p) × (number d p ≤ u)
    entries-known p m =
        let i = entry D p m in
        let f = F.full p i.0 i.1 (omega (arith, i.2)) in
        (f.0, omega (arith, f.1, i.2))

    level-low : level (number d) r ≤ suc u
    level-low = omega (arith, greatest-le (number d) u r.positives (λ p m. (entries-known p m).1))

  -- The next slot of a round, with a rule or without.
  module _ (at : ℕ → ℕ) (k i : ℕ) (d : List ℕ) (t : Bool) (W : Pass P M at n k i d t) (o : Option Rule) (h : ℕ)
      (here : get_or P (at i) none ≡ o) (heads : (r : Rule) → o ≡ some r → r.head ≡ h) where
    -- of what holds of the slot's head, and of its rule's
    turned : (r : Rule) → Held P (at i) r → Lowers M (number d) n (some r) r.head → Lowers M (number d) n o h
    turned r held L =
        let e : o ≡ some r = sym here ∙ held in
        subst (λ (z : Option Rule). Lowers M (number d) n z h) (sym e)
        (subst (λ (z : ℕ). Lowers M (number d) n (some r) z) (heads r e) L)

    -- it lowers none
    pass-over : (Lowers M (number d) n o h → ⊥) → Pass P M at n k (i + 1) d t
    pass-over not = record {
      found = W.found;
      visited = λ j r l. below_more
          (λ z. Held P (at z) r → valid M r ≡ true → (u : ℕ) → u ≤ k → u < n → Derivations P M r.positives u
          → (0 < number d r.head) × (number d r.head ≤ suc u)) i
          (λ z m. W.visited z r m)
          (λ held v u a b D. (
          let low = level-low k d W.found r u a D in
          let y = not-lowers M (number d) n r (λ L. not (turned r held L)) v
          (λ p m. (let e = entries-known k d W.found r u a D p m in (e.0, omega (arith, e.1)))) (omega arith) in
          (y.0, omega (arith, y.1)))) j l;
      rests = λ q j r l. below_more (λ z. Held P (at z) r → Lowers M (number d) n (some r) r.head → ⊥) i
          (λ z m. W.rests q z r m) (λ held L. not (turned r held L)) j l;
      early = W.early;
    }

    -- it lowers its head
    module _ (L : Lowers M (number d) n o h) where
      abbrev v : ℕ
      v = level (number d) L.rule

      held : Held P (at i) L.rule
      held = here ∙ L.held

      head-is : L.rule.head ≡ h
      head-is = heads L.rule L.held

      inside : h < length d
      inside = (let l = B (at i) L.rule held L.rule.head (Memᴰ.head refl) in
          omega (arith, l, head-is, W.found.long))

      after : List ℕ
      after = set d h v

      there : number after h ≡ v
      unfolding after
      there = get_or-set_same d h v 0 inside

      off : (x : ℕ) → (x ≡ h → ⊥) → number after x ≡ number d x
      unfolding after
      off x q = get_or-set_other d h x v 0 q

      -- numbers only fall
      fall : (x : ℕ) → 0 < number d x → (0 < number after x) × (number after x ≤ number d x)
      fall x l = elim (ℕ_discrete x h) [
        | yes q ↦ (
          omega (arith, ap (number after) q, there),
          elim L.less [
            | inl z ↦ absurd (omega (arith, ap (number d) q))
            | inr z ↦ omega (arith, ap (number after) q, ap (number d) q, there)
          ],
        )
        | no q ↦ (omega (arith, off x q), omega (arith, off x q))
      ]

      derivation : Derivation P M h v
      derivation = by (at i) L.rule held head-is L.good
          (derivations-of P M (number d) L.rule.positives (λ x m. W.found.derived x
          (within-at (number d) (suc n) x
          (every-at (within (number d) (suc n)) L.rule.positives L.known x m)).0))

      -- the head's depth takes more than the rounds made so far, and at most n
      soon : k < n
      soon =
          let w = in-depth P M A.founded h (derived-in A.closed derivation) in
          let b = depth-few h w.0 w.1 in
          let m = w.1.least v derivation in
          elim (le-or-lt w.0 k) [
            | inl l ↦ (
                let f = W.found.full h w.0 w.1.reached l in
                elim L.less [ inl z ↦ absurd (omega (arith, f.0)) | inr z ↦ absurd (omega (arith, f.1)) ])
            | inr l ↦ omega arith
          ]

      lowered : Pass P M at n k (i + 1) after true
      unfolding after
      lowered = record {
        found = record {
          few = W.found.few;
          long = length-set d h v ∙ W.found.long;
          low = λ x. elim (ℕ_discrete x h) [
            | yes q ↦ omega (arith, ap (number after) q, there, L.low)
            | no q ↦ omega (arith, off x q, W.found.low x)
          ];
          derived = λ x l. elim (ℕ_discrete x h) [
            | yes q ↦ subst (λ (z : ℕ). Derivation P M z (number after z)) (sym q)
                (subst (λ (z : ℕ). Derivation P M h z) (sym there) derivation)
            | no q ↦ subst (λ (z : ℕ). Derivation P M x z) (sym (off x q))
                (W.found.derived x (omega (arith, off x q)))
          ];
          full = λ a u D l. (
              let f = W.found.full a u D l in
              let g = fall a f.0 in
              (g.0, omega (arith, f.1, g.1)));
        };
        visited = λ j r l. below_more
            (λ z. Held P (at z) r → valid M r ≡ true → (u : ℕ) → u ≤ k → u < n → Derivations P M r.positives u
            → (0 < number after r.head) × (number after r.head ≤ suc u)) i
            (λ z m hr vr u a b D. (
            let f = W.visited z r m hr vr u a b D in
            let g = fall r.head f.0 in
            (g.0, omega (arith, f.1, g.1))))
            (λ hr vr u a b D. (
            let e = held-unique P (at i) L.rule r held hr in
            let low = level-low k d W.found r u a D in
            let same : v ≡ level (number d) r = ap (λ (z : Rule). level (number d) z) e in
            let at_head : number after r.head ≡ v =
            ap (λ (z : Rule). number after z.head) (sym e) ∙ (ap (number after) head-is ∙ there) in
            (omega (arith, at_head), omega (arith, at_head, same)))) j l;
        rests = λ q. absurd (true≢false q);
        early = λ q. soon;
      }

      pass-lower : (l : List ℕ) → l ≡ set d h v → Pass P M at n k (i + 1) l true
      unfolding after
      pass-lower l is = rw is lowered

  -- The end of a round, which has come to every slot.
  module _ (at : ℕ → ℕ) (k i : ℕ) (d : List ℕ) (all : (s : ℕ) → s < length P → (j : ℕ) × (j < i) × (at j ≡ s)) where
    -- where the rule of a slot was come to
    come : (s : ℕ) (r : Rule) → Held P s r → (j : ℕ) × (j < i) × Held P (at j) r
    come s r held =
        let y = all s (held_below P s r held) in
        (y.0, y.1, subst (λ (z : ℕ). Held P z r) (sym y.2) held)

    -- a round that lowers none: every derivation of at most n levels is as high as its atom's number
    reach : Pass P M at n k i d false → (m a h : ℕ) → h ≤ m → h ≤ n → Derivation P M a h
        → (0 < number d a) × (number d a ≤ h)
    reach W zero a h l b D = absurd (omega (arith, (last D).height))
    reach W (suc m) a h l b D =
        let w = last D in
        let r = w.rule in
        let e : (p : ℕ) → p ∈ r.positives → (0 < number d p) × (number d p ≤ w.under) = λ p q. (
        let y = entry w.parts p q in
        let z = reach W m p y.0 (omega (arith, y.2, w.height)) (omega (arith, y.2, w.height)) y.1 in
        (z.0, omega (arith, z.1, y.2))) in
        let low = greatest-le (number d) w.under r.positives (λ p q. (e p q).1) in
        let c = come w.slot r w.held in
        let f = not-lowers M (number d) n r (W.rests refl c.0 r c.1 c.2) w.good
        (λ p q. ((e p q).0, W.found.low p)) (omega (arith, w.height)) in
        (omega (arith, f.0, ap (number d) w.heads), omega (arith, f.1, w.height, ap (number d) w.heads))

    pub pass-end : (t : Bool) → Pass P M at n k i d t → Outer P M n (k + 1) d t
    pass-end true W = record {
      few = omega (arith, W.early refl);
      long = W.found.long;
      low = W.found.low;
      derived = W.found.derived;
      full = λ a h D l. (
          let w = last D in
          let c = come w.slot w.rule w.held in
          let f = W.visited c.0 w.rule c.1 c.2 w.good w.under (omega (arith, w.height))
          (omega (arith, w.height, W.early refl)) w.parts in
          (omega (arith, f.0, ap (number d) w.heads), omega (arith, f.1, w.height, ap (number d) w.heads)));
    }
    pass-end false W = record {
      deep = λ a m. (
          let w = in-depth P M A.founded a m in
          let b = depth-few a w.0 w.1 in
          let f = reach W w.0 a w.0 (omega arith) b w.1.reached in
          let e : w.0 ≡ number d a = omega (arith, f.1, w.1.least (number d a) (W.found.derived a f.0)) in
          subst (λ (z : ℕ). Depth P M a z) e w.1);
      rest = λ a m. elim (le-or-lt (number d a) 0) [
        | inl l ↦ omega arith
        | inr l ↦ absurd (clash (derived-in A.closed (W.found.derived a l)) m)
      ];
    }

-- The next slot, in the words of the code: it is slot s of the table, which holds the rule read, or none.
module _ (rules : List table.Rule) (M : AtomSet) (n : ℕ) (B : Bounded (active_of rules) n)
    (A : Admissible (active_of rules) M) (at : ℕ → ℕ) (k i : ℕ) (d : List ℕ) (t : Bool)
    (W : Pass (active_of rules) M at n k i d t) (s : ℕ) (come : s ≡ at i)
    (rule : table.Rule) (read : get_or (active_of rules) s none ≡ active_in rule) where
  abbrev o : Option Rule
  o = active_in rule

  abbrev h : ℕ
  h = rule.head.0

  here : get_or (active_of rules) (at i) none ≡ o
  here = ap (λ (z : ℕ). get_or (active_of rules) z none) (sym come) ∙ read

  pub pass-next : (l : List ℕ) (flag : Bool) → Lowered M n o h d l flag → (u : Bool) → u ≡ (flag || t)
      → Pass (active_of rules) M at n k (i + 1) l u
  pass-next l true R u e =
      let w = R.lower refl in
      let heads = slot-head rule in
      rw e (pass-lower (active_of rules) M n B A at k i d t W o h here heads w.0 l w.1)
  pass-next l false R u e =
      let w = R.kept refl in
      let heads = slot-head rule in
      rw (e, w.1) (pass-over (active_of rules) M n B A at k i d t W o h here heads w.0)

-- What rounds have found stays so where any slot is visited in between: its rule is that read, or it holds none.
pub visit :
    (rules : List table.Rule) (M : AtomSet) (n : ℕ) → Bounded (active_of rules) n → Admissible (active_of rules) M
    → (k : ℕ) (d : List ℕ) → Found (active_of rules) M n k d
    → (s : ℕ) (rule : table.Rule) → rule ≡ get_or rules s free_rule
    → (l : List ℕ) (flag : Bool) → Lowered M n (active_in rule) rule.head.0 d l flag → Found (active_of rules) M n k l
visit rules M n B A k d F s rule read l flag R =
    (pass-next rules M n B A (λ z. s) k 0 d false (pass-start (active_of rules) M (λ z. s) n k d true refl F) s refl rule
    (active-at (book_of rules) s ∙ ap active_on (get_or-map page_of rules s free_rule) ∙ ap active_in (sym read)) l flag
    R _ refl).found

-- No more rounds are made than there are atoms.
pub rounds-few :
    (P : Program) (M : AtomSet) (n k : ℕ) (d : List ℕ) (go : Bool) → go ≡ true → Outer P M n k d go → k ≤ n
rounds-few P M n k d true g W = W.few
rounds-few P M n k d false g W = absurd (true≢false (sym g))

pub rounds-end :
    (P : Program) (M : AtomSet) (n k : ℕ) (d : List ℕ) (go : Bool) → go ≡ false → Outer P M n k d go
    → DepthsOf P M (number d)
rounds-end P M n k d true g W = absurd (true≢false g)
rounds-end P M n k d false g W = W

-- The end of a round over the table's slots, upwards or downwards.
pub round-end :
    (rules : List table.Rule) (M : AtomSet) (n : ℕ) → Bounded (active_of rules) n → Admissible (active_of rules) M
    → (S : ℕ) → length rules ≡ S → (down : Bool) (k i : ℕ) (d : List ℕ) → S ≤ i → (t : Bool)
    → Pass (active_of rules) M (slot_at S down) n k i d t → Outer (active_of rules) M n (k + 1) d t
round-end rules M n B A S long down k i d past t W =
    pass-end (active_of rules) M n B A (slot_at S down) k i d
    (λ s l. (
    let w = slot-at-each S down s (omega (arith, active-length rules)) in
    (w.0, omega (arith, w.1), w.2)))
    t W
