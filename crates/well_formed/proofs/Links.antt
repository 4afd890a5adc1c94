-- Laws of the links from a key to the slots whose rules have it: following them meets every earlier rule of the key.
-- Assumes nothing.
use Prim.Native.Nat.{ℕ, ◌+◌, ◌-◌, ◌*◌, ◌%◌, ◌/◌, ◌≤◌, ◌<◌}
use native.Mathlib.Omega.{arith}
use mathlib.Core.Path.{◌≡◌, refl, sym, ◌∙◌, ap, subst}
use mathlib.Core.Logic.{⊎_elim}
use mathlib.Core.List.{List, [], ◌∷◌}
use mathlib.Core.Option.{Option, none, some, some-injective, none-ne-some}
use lib.ListN.{length, get_or, set, length-set, get_or-eq_default}
use lib.Seq.{slice, set_out}
use Rattle.theory.specs.Rules.{Rule, Program, Held, entries}
use Rattle.theory.proofs.Lists.{le-or-lt}
use Rattle.table.specs.declared.Atom.{Atom}
use Rattle.table.specs.Sets.{number}
use Rattle.table.specs.declared.Rule as table
use Rattle.table.specs.Rules.{numbers, no_atom, past_rule, program_of, slot_of}
use Rattle.table.proofs.Programs.{program-at}
use Rattle.table.proofs.Entries.{part-over, part-next}
use Rattle.table.proofs.Members.{number_same, number-other}
use Rattle.well_formed.specs.Slots.{Single}
use Rattle.well_formed.specs.Keys.{keys, modulus, factor, mixed, key, slot_key}
use Rattle.questions.proofs.Passes.{equal?}

-- A rule that was read of a slot is what the program has there.
pub read_at : (rows : List table.Rule) (s : ℕ) (r : table.Rule) → r ≡ get_or rows s past_rule
    → get_or (program_of rows) s none ≡ slot_of r
read_at rows s r read = program-at rows s ∙ ap slot_of (sym read)

-- k is 1 more than the last slot below `end` that holds a rule of the key h; 0 if there is none.
pub record Link (P : Program) (h k end : ℕ) : Type 0 where
  pub under : k ≤ end
  pub at : 0 < k → (r : Rule) × Held P (k - 1) r × (key r ≡ h)
  pub free : (t : ℕ) → k ≤ t → t < end → (r : Rule) → Held P t r → key r ≡ h → ⊥

-- The links after i slots: the last slot of each key, the one before of each slot; and no two rules so far are equal.
-- There are m slots.
pub record Linked (P : Program) (m : ℕ) (last before : List ℕ) (i : ℕ) : Type 0 where
  pub size : length last ≡ keys
  pub long : length before ≡ m
  pub lasts : (h : ℕ) → Link P h (number last h) i
  pub befores : (t : ℕ) → t < i → (r : Rule) → Held P t r → Link P (key r) (number before t) t
  pub differ : (s t : ℕ) (r : Rule) → s < i → t < s → Held P s r → Held P t r → ⊥

-- Following the links of slot i, which is o: k is the link to follow next, and no slot from there on to below i holds
-- an equal rule.
pub record Following (P : Program) (o : Option Rule) (i k : ℕ) : Type 0 where
  pub under : k ≤ i
  pub at : 0 < k → (r : Rule) × Held P (k - 1) r × (key r ≡ slot_key o)
  pub differ : (q : Rule) → o ≡ some q → (t : ℕ) → k ≤ t → t < i → Held P t q → ⊥

-- A key is below the number of keys.
mixed-below : (xs : List ℕ) (k : ℕ) → mixed k xs < keys
unfolding mixed
mixed-below [] k = omega arith
mixed-below (x ∷ xs) k = mixed-below xs ((factor * k + x) % modulus)

key_below : (q : Rule) → key q < keys
key_below q = mixed-below (entries q) q.head

-- A slot with the key of a rule is not free.
linked-held : (o : Option Rule) (r : Rule) → key r ≡ slot_key o → (q : Rule) × (o ≡ some q)
linked-held none r e = absurd (omega (arith, key_below r))
linked-held (some q) r e = (q, refl)

-- A walk over the entries from j to below m: what was mixed in and what is left give the whole.
none_left : (k : ℕ) (ys : List ℕ) → ys ≡ [] → mixed k ys ≡ factor * k % modulus / keys
unfolding mixed
none_left k ys e = rw e refl

one_left : (k y : ℕ) (ys zs : List ℕ) → zs ≡ y ∷ ys → mixed k zs ≡ mixed ((factor * k + y) % modulus) ys
unfolding mixed
one_left k y ys zs e = rw e refl

module _ (xs : List Atom) (j m k whole : ℕ) (W : mixed k (numbers (slice j m xs)) ≡ whole) where
  pub mixed-over : m ≤ j → factor * k % modulus / keys ≡ whole
  mixed-over l = sym (none_left k (numbers (slice j m xs)) (part-over xs j m l)) ∙ W

  pub mixed-next :
      j < m → m ≤ length xs → (x next : ℕ) → x ≡ (get_or xs j no_atom).0 → next ≡ (factor * k + x) % modulus
      → mixed next (numbers (slice (j + 1) m xs)) ≡ whole
  mixed-next l b x next e f =
      ap (λ (z : ℕ). mixed z (numbers (slice (j + 1) m xs))) (f ∙ ap (λ (z : ℕ). (factor * k + z) % modulus) e)
      ∙ sym (one_left k (get_or xs j no_atom).0 (numbers (slice (j + 1) m xs)) (numbers (slice j m xs))
      (part-next xs j m l b)) ∙ W

module _ (P : Program) (m : ℕ) where
  pub links-start : (last before : List ℕ) → length last ≡ keys → length before ≡ m → ((h : ℕ) → number last h ≡ 0)
      → Linked P m last before 0
  links-start last before l k z = record {
    size = l;
    long = k;
    lasts = λ h. record {
      under = omega (arith, z h);
      at = λ p. absurd (omega (arith, z h));
      free = λ t u v. absurd (omega arith);
    };
    befores = λ t b. absurd (omega arith);
    differ = λ s t r b. absurd (omega arith);
  }

  module _ (last before : List ℕ) (i : ℕ) (L : Linked P m last before i) where
    pub follow-start : (o : Option Rule) (h start : ℕ) → h ≡ slot_key o → start ≡ number last h → Following P o i start
    follow-start o h start z u =
        let K = subst (λ (k : ℕ). Link P h k i) (sym u) (L.lasts h) in
        record {
          under = K.under;
          at = λ p. (let w = K.at p in (w.0, w.1, w.2 ∙ z));
          differ = λ q f t a b g. K.free t a b q g (ap slot_key (sym f) ∙ sym z);
        }

    module _ (o : Option Rule) (e : get_or P i none ≡ o) (k : ℕ) (pos : 0 < k) (F : Following P o i k) where
      -- the link of the slot that is met
      met : Link P (key (F.at pos).0) (number before (k - 1)) (k - 1)
      met = L.befores (k - 1) (omega (arith, F.under)) (F.at pos).0 (F.at pos).1

      pub follow-falls : number before (k - 1) < k
      follow-falls = omega (arith, met.under)

      pub follow-next : (x y : Rule) → ((q : Rule) → o ≡ some q → x ≡ q) → ((r : Rule) → Held P (k - 1) r → y ≡ r)
          → (x ≡ y → ⊥) → Following P o i (number before (k - 1))
      follow-next x y own there unlike =
          let same_key = (F.at pos).2 in
          record {
            under = omega (arith, met.under, F.under);
            at = λ p. (let z = met.at p in (z.0, z.1, z.2 ∙ same_key));
            differ = λ q h t u v g. ⊎_elim
                (λ (b : k ≤ t). F.differ q h t b v g)
                (λ (b : t < k). ⊎_elim
                (λ (c : k - 1 ≤ t). (
                let here : t ≡ k - 1 = omega arith in
                unlike (own q h ∙ sym (there q (subst (λ (j : ℕ). Held P j q) here g)))))
                (λ (c : t < k - 1). met.free t u c q g (ap slot_key (sym h) ∙ sym same_key))
                (le-or-lt (k - 1) t))
                (le-or-lt k t);
          }

      pub follow-equal : (x y : Rule) → ((q : Rule) → o ≡ some q → x ≡ q) → ((r : Rule) → Held P (k - 1) r → y ≡ r)
          → x ≡ y → Single P → ⊥
      follow-equal x y own there alike S =
          let w = F.at pos in
          let here = linked-held o w.0 w.2 in
          let q : here.0 ≡ w.0 = sym (own here.0 here.1) ∙ alike ∙ there w.0 w.1 in
          let z = S i (k - 1) w.0 (e ∙ here.1 ∙ ap some q) w.1 in
          omega (arith, F.under)

    -- a slot that no rule of h stands in leaves the link as it is
    pass-by : (h k : ℕ) → Link P h k i → ((r : Rule) → Held P i r → key r ≡ h → ⊥) → Link P h k (i + 1)
    pass-by h k K f = record {
      under = omega (arith, K.under);
      at = K.at;
      free = λ t u v r g. ⊎_elim
          (λ (b : i ≤ t). (
          let here : t ≡ i = omega arith in f r (subst (λ (j : ℕ). Held P j r) here g)))
          (λ (b : t < i). K.free t u b r g)
          (le-or-lt i t);
    }

    -- a slot that holds a rule is now the last of its key, and a free one is noted past the end
    lasts-next : (o : Option Rule) → get_or P i none ≡ o → (h : ℕ)
        → Link P h (number (set last (slot_key o) (i + 1)) h) (i + 1)
    lasts-next none e h =
        subst (λ (xs : List ℕ). Link P h (number xs h) (i + 1))
        (sym (set_out last keys (i + 1) (omega (arith, L.size))))
        (pass-by h (number last h) (L.lasts h) (λ r g. absurd (none-ne-some r (sym e ∙ g))))
    lasts-next (some q) e h = ⊎_elim
        (λ (z : h ≡ key q). (
        let value : i + 1 ≡ number (set last (key q) (i + 1)) h =
        sym (ap (number (set last (key q) (i + 1))) z
        ∙ number_same last (key q) (i + 1) (omega (arith, L.size, key_below q))) in
        let here : i ≡ (i + 1) - 1 = omega arith in
        subst (λ (k : ℕ). Link P h k (i + 1)) value
        (record {
          under = omega arith;
          at = λ p. (q, subst (λ (j : ℕ). Held P j q) here e, sym z);
          free = λ t u v. absurd (omega arith);
        })))
        (λ (f : h ≡ key q → ⊥).
        subst (λ (k : ℕ). Link P h k (i + 1)) (sym (number-other last (key q) (i + 1) h f))
        (pass-by h (number last h) (L.lasts h)
        (λ r g z. f (sym z ∙ ap key (sym (some-injective q r (sym e ∙ g)))))))
        (equal? h (key q))

    -- All links of slot i were followed.
    module _ (room : i < m) (o : Option Rule) (e : get_or P i none ≡ o) (F : Following P o i 0) where
      differ-next : (s t : ℕ) (r : Rule) → s < i + 1 → t < s → Held P s r → Held P t r → ⊥
      differ-next s t r l k h g = ⊎_elim
          (λ (b : i ≤ s). (
          let here : s ≡ i = omega arith in
          F.differ r (sym e ∙ subst (λ (j : ℕ). Held P j r) here h) t (omega arith) (omega arith) g))
          (λ (b : s < i). L.differ s t r b k h g)
          (le-or-lt i s)

      -- the slots before i keep their links, and i gets the last so far of its key
      befores-next : (t : ℕ) → t < i + 1 → (r : Rule) → Held P t r
          → Link P (key r) (number (set before i (number last (slot_key o))) t) t
      befores-next t l r g =
          let v = number last (slot_key o) in
          ⊎_elim
          (λ (b : i ≤ t). (
          let here : t ≡ i = omega arith in
          let own : key r ≡ slot_key o = ap slot_key (sym (subst (λ (j : ℕ). Held P j r) here g) ∙ e) in
          let value : number last (key r) ≡ number (set before i v) i =
          ap (number last) own ∙ sym (number_same before i v (omega (arith, L.long))) in
          subst (λ (j : ℕ). Link P (key r) (number (set before i v) j) j) (sym here)
          (subst (λ (k : ℕ). Link P (key r) k i) value (L.lasts (key r)))))
          (λ (b : t < i).
          subst (λ (k : ℕ). Link P (key r) k t) (sym (number-other before i v t (λ z. omega arith)))
          (L.befores t b r g))
          (le-or-lt i t)

      links-next : Linked P m (set last (slot_key o) (i + 1)) (set before i (number last (slot_key o))) (i + 1)
      links-next = record {
        size = length-set last (slot_key o) (i + 1) ∙ L.size;
        long = length-set before i _ ∙ L.long;
        lasts = lasts-next o e;
        befores = befores-next;
        differ = differ-next;
      }

    -- The same, of the numbers and arrays that the code has.
    pub links-step :
        i < m → (o : Option Rule) → get_or P i none ≡ o → (k : ℕ) → k ≤ 0 → Following P o i k
        → (h start : ℕ) → h ≡ slot_key o → start ≡ number last h → (later : List ℕ) → later ≡ set last h (i + 1)
        → Linked P m later (set before i start) (i + 1)
    links-step room o e k l F h start z u later w =
        let over : k ≡ 0 = omega arith in
        let all = links-next room o e (subst (λ (x : ℕ). Following P o i x) over F) in
        subst (λ (xs : List ℕ). Linked P m xs (set before i start) (i + 1)) (sym w)
        (subst (λ (x : ℕ). Linked P m (set last h (i + 1)) (set before i x) (i + 1)) (sym u)
        (subst (λ (x : ℕ). Linked P m (set last x (i + 1)) (set before i (number last x)) (i + 1)) (sym z) all))

    -- All slots were followed.
    pub links-all : length P ≤ i → Single P
    links-all l s t r h g = ⊎_elim
        (λ (a : s ≤ t). ⊎_elim
        (λ (b : t ≤ s). omega arith)
        (λ (b : s < t). absurd (L.differ t s r (under t r g) b g h))
        (le-or-lt t s))
        (λ (a : t < s). absurd (L.differ s t r (under s r h) a h g))
        (le-or-lt s t)
      where
        under : (j : ℕ) (x : Rule) → Held P j x → j < i
        under j x w = ⊎_elim
            (λ (a : i ≤ j). absurd (none-ne-some x (sym (get_or-eq_default P none (omega arith)) ∙ w)))
            (λ (a : j < i). a)
            (le-or-lt i j)
