-- A table's numbers, slot by slot: what stands in each slot, and what a slot written changes. Assumes nothing.
use Prim.Native.Nat.{ℕ, zero, suc, ◌+◌, ◌*◌, ◌/◌, ◌%◌, ◌≤◌, ◌<◌}
use native.Mathlib.Omega.{arith}
use native.Mathlib.Decide.{ℕ_discrete}
use mathlib.Core.Path.{◌≡◌, refl, sym, ◌∙◌, ap, subst}
use mathlib.Core.Bool.{Bool, true}
use mathlib.Core.Logic.{◌⊎◌, inl, inr, ⊎_elim, ◌↔◌}
use mathlib.Core.List.{List, [], ◌∷◌}
use lib.ListN.{length, get_or, set, replicate, length-set, length-replicate, get_or-replicate}
use lib.Seq.{ext_get_or, get_or-set_same, get_or-set_other}
use Rattle.theory.specs.Limits.{document}
use Rattle.theory.proofs.Lists.{le-or-lt}
use Rattle.table.specs.declared.Atom.{Atom}
use Rattle.table.specs.declared.Rule.{Rule}
use Rattle.table.specs.Rules.{no_atom, past_rule}
use Rattle.table.specs.Words.{width, words, number_in, rule_at, depth_at, spoiler_at, from_slot, rules_of}
use Rattle.table.specs.Words.{rule_words, with_rule, with_kept}
use Rattle.table.specs.Clean.{free_rule}
use Rattle.table.proofs.Members.{all_alike}
use Rattle.table.proofs.Pasting.{inside, before, after}

-- As many rules as slots; each is what its slot's numbers say.
module _ {A : Type 0} (f : ℕ → A) where
  from-length : (s n : ℕ) → length (from_slot f s n) ≡ n
  unfolding from_slot
  from-length s zero = refl
  from-length s (suc n) = ap suc (from-length (suc s) n)

  from_at : (d : A) (s n i : ℕ) → i < n → get_or (from_slot f s n) i d ≡ f (s + i)
  unfolding from_slot
  from_at d s zero i l = absurd (omega arith)
  from_at d s (suc n) zero l = (let e : s ≡ s + 0 = omega arith in ap f e)
  from_at d s (suc n) (suc i) l =
      let e : suc s + i ≡ s + suc i = omega arith in
      from_at d (suc s) n i (omega arith) ∙ ap f e

pub rules-length : (table : List ℕ) → length (rules_of table) ≡ document.slots
unfolding rules_of
rules-length table = from-length (rule_at table) 0 document.slots

pub rules-at : (table : List ℕ) (s : ℕ) → s < document.slots → get_or (rules_of table) s past_rule ≡ rule_at table s
unfolding rules_of
rules-at table s l =
    let e : 0 + s ≡ s = omega arith in
    from_at (rule_at table) past_rule 0 document.slots s l ∙ ap (rule_at table) e

-- An exact test of one thing is one of an equal thing.
pub told_of : {A : Type 0} (Q : A → Type 0) {x y : A} {t : Bool} → x ≡ y → (t ≡ true) ↔ Q x → (t ≡ true) ↔ Q y
told_of Q {t = t} e told = subst (λ z. (t ≡ true) ↔ Q z) e told

-- A list of eight atoms, written out.
abbrev atoms : List Atom → List Atom
atoms e =
    get_or e 0 no_atom
    ∷ get_or e 1 no_atom
    ∷ get_or e 2 no_atom
    ∷ get_or e 3 no_atom
    ∷ get_or e 4 no_atom
    ∷ get_or e 5 no_atom
    ∷ get_or e 6 no_atom
    ∷ get_or e 7 no_atom
    ∷ []

eight : (e : List Atom) → length e ≡ document.entries → atoms e ≡ e
eight [] l = absurd (omega arith)
eight (a ∷ []) l = absurd (omega arith)
eight (a ∷ b ∷ []) l = absurd (omega arith)
eight (a ∷ b ∷ c ∷ []) l = absurd (omega arith)
eight (a ∷ b ∷ c ∷ d ∷ []) l = absurd (omega arith)
eight (a ∷ b ∷ c ∷ d ∷ e ∷ []) l = absurd (omega arith)
eight (a ∷ b ∷ c ∷ d ∷ e ∷ f ∷ []) l = absurd (omega arith)
eight (a ∷ b ∷ c ∷ d ∷ e ∷ f ∷ g ∷ []) l = absurd (omega arith)
eight (a ∷ b ∷ c ∷ d ∷ e ∷ f ∷ g ∷ h ∷ []) l = refl
eight (a ∷ b ∷ c ∷ d ∷ e ∷ f ∷ g ∷ h ∷ i ∷ j) l = absurd (omega arith)

-- The numbers of a rule determine it: two slots of equal numbers have equal rules.
same-rule : (w v : List ℕ) (s : ℕ) → ((k : ℕ) → k < 12 → number_in w s k ≡ number_in v s k) → rule_at w s ≡ rule_at v s
same-rule w v s same =
    let z : width * s ≡ width * s + 0 = omega arith in
    let q0 : get_or w (width * s) 0 ≡ get_or v (width * s) 0 =
    ap (λ i. get_or w i 0) z ∙ same 0 (omega arith) ∙ ap (λ i. get_or v i 0) (sym z) in
    let q1 = same 1 (omega arith) in
    let q2 = same 2 (omega arith) in
    let q3 = same 3 (omega arith) in
    let q4 = same 4 (omega arith) in
    let q5 = same 5 (omega arith) in
    let q6 = same 6 (omega arith) in
    let q7 = same 7 (omega arith) in
    let q8 = same 8 (omega arith) in
    let q9 = same 9 (omega arith) in
    let q10 = same 10 (omega arith) in
    let q11 = same 11 (omega arith) in
    λ i. record {
      state = q0 i;
      head = record { 0 = q1 i };
      positives = q2 i;
      negatives = q3 i;
      entries =
          record { 0 = q4 i }
          ∷ record { 0 = q5 i }
          ∷ record { 0 = q6 i }
          ∷ record { 0 = q7 i }
          ∷ record { 0 = q8 i }
          ∷ record { 0 = q9 i }
          ∷ record { 0 = q10 i }
          ∷ record { 0 = q11 i }
          ∷ [];
    }

-- Tables whose slots have equal numbers for their rules have equal rules.
pub same-rules : (w v : List ℕ)
    → ((s : ℕ) → s < document.slots → (k : ℕ) → k < 12 → number_in w s k ≡ number_in v s k) → rules_of w ≡ rules_of v
same-rules w v same = ext_get_or past_rule (rules_of w) (rules_of v) (rules-length w ∙ sym (rules-length v)) (λ s l. (
    let m : s < document.slots = omega (arith, rules-length w) in
    rules-at w s m ∙ same-rule w v s (same s m) ∙ sym (rules-at v s m)))

-- A rule put into slot s: its slot has it, every other keeps its own, and no slot keeps other numbers.
module _ (w : List ℕ) (s : ℕ) (r : Rule) (long : length w ≡ words) (l : s < document.slots)
    (all : length r.entries ≡ document.entries) where
  abbrev put : List ℕ
  put = with_rule w s r

  put-here : (k : ℕ) → k < 12 → number_in put s k ≡ get_or (rule_words r) k 0
  put-here k h = inside w (rule_words r) (width * s) 12 (omega arith) (omega arith) k h

  put-there : (i : ℕ) → (i < width * s) ⊎ (width * s + 12 ≤ i) → get_or put i 0 ≡ get_or w i 0
  put-there i h = ⊎_elim
      (λ (m : i < width * s). before w (rule_words r) (width * s) 12 (omega arith) (omega arith) i m)
      (λ (m : width * s + 12 ≤ i). after w (rule_words r) (width * s) 12 (omega arith) (omega arith) i m)
      h

  apart : (t k : ℕ) → (t ≡ s → ⊥) → k < width → (width * t + k < width * s) ⊎ (width * s + 12 ≤ width * t + k)
  apart t k n h = ⊎_elim
      (λ (m : t ≤ s). ⊎_elim (λ (i : s ≤ t). absurd (n (omega arith))) (λ (i : t < s). inl (omega arith))
      (le-or-lt s t))
      (λ (m : s < t). inr (omega arith))
      (le-or-lt t s)

  rule-here : rule_at put s ≡ r
  rule-here =
      let z : width * s ≡ width * s + 0 = omega arith in
      let q0 : get_or put (width * s) 0 ≡ r.state = ap (λ i. get_or put i 0) z ∙ put-here 0 (omega arith) in
      let q1 = put-here 1 (omega arith) in
      let q2 = put-here 2 (omega arith) in
      let q3 = put-here 3 (omega arith) in
      let e0 = put-here 4 (omega arith) in
      let e1 = put-here 5 (omega arith) in
      let e2 = put-here 6 (omega arith) in
      let e3 = put-here 7 (omega arith) in
      let e4 = put-here 8 (omega arith) in
      let e5 = put-here 9 (omega arith) in
      let e6 = put-here 10 (omega arith) in
      let e7 = put-here 11 (omega arith) in
      let same : rule_at put s ≡ record {
        state = r.state;
        head = r.head;
        positives = r.positives;
        negatives = r.negatives;
        entries = atoms r.entries;
      } =
      λ i. record {
        state = q0 i;
        head = record { 0 = q1 i };
        positives = q2 i;
        negatives = q3 i;
        entries =
            record { 0 = e0 i }
            ∷ record { 0 = e1 i }
            ∷ record { 0 = e2 i }
            ∷ record { 0 = e3 i }
            ∷ record { 0 = e4 i }
            ∷ record { 0 = e5 i }
            ∷ record { 0 = e6 i }
            ∷ record { 0 = e7 i }
            ∷ [];
      } in
      same ∙ ap (λ (e : List Atom). record
      { state = r.state; head = r.head; positives = r.positives; negatives = r.negatives; entries = e })
      (eight r.entries all)

  pub put-rules : rules_of put ≡ set (rules_of w) s r
  put-rules = ext_get_or past_rule (rules_of put) (set (rules_of w) s r)
      (rules-length put ∙ sym (length-set (rules_of w) s r ∙ rules-length w))
      (λ t h. (
      let m : t < document.slots = omega (arith, rules-length put) in
      elim (ℕ_discrete t s) [
        | yes e ↦ rules-at put t m ∙ ap (rule_at put) e ∙ rule-here
            ∙ sym (ap (λ i. get_or (set (rules_of w) s r) i past_rule) e
            ∙ get_or-set_same (rules_of w) s r past_rule (omega (arith, rules-length w)))
        | no n ↦ rules-at put t m
            ∙ same-rule put w t (λ k k<. put-there (width * t + k) (apart t k n (omega arith)))
            ∙ sym (rules-at w t m)
            ∙ sym (get_or-set_other (rules_of w) s t r past_rule n)
      ]))

-- What slot s keeps written: its depth and spoiler are these, and nothing else changes.
module _ (w : List ℕ) (s d p : ℕ) (long : length w ≡ words) (l : s < document.slots) where
  abbrev kept : List ℕ
  kept = with_kept w s d p

  abbrev deep : List ℕ
  deep = set w (width * s + 12) d

  pub kept-length : length kept ≡ words
  kept-length = length-set deep (width * s + 13) p ∙ length-set w (width * s + 12) d ∙ long

  kept-other : (i : ℕ) → (i ≡ width * s + 12 → ⊥) → (i ≡ width * s + 13 → ⊥) → get_or kept i 0 ≡ get_or w i 0
  kept-other i m n = get_or-set_other deep (width * s + 13) i p 0 n ∙ get_or-set_other w (width * s + 12) i d 0 m

  pub kept-rules : rules_of kept ≡ rules_of w
  kept-rules = same-rules kept w (λ t m k h. kept-other (width * t + k) (λ e. omega arith) (λ e. omega arith))

  pub kept_depth-here : depth_at kept s ≡ d
  kept_depth-here =
      get_or-set_other deep (width * s + 13) (width * s + 12) p 0 (λ e. omega arith)
      ∙ get_or-set_same w (width * s + 12) d 0 (omega arith)

  pub kept-spoiler-here : spoiler_at kept s ≡ p
  kept-spoiler-here =
      get_or-set_same deep (width * s + 13) p 0 (omega (arith, length-set w (width * s + 12) d))

  pub kept_depth-other : (t : ℕ) → (t ≡ s → ⊥) → depth_at kept t ≡ depth_at w t
  kept_depth-other t n = kept-other (width * t + 12) (λ e. n (omega arith)) (λ e. omega arith)

  pub kept-spoiler-other : (t : ℕ) → (t ≡ s → ⊥) → spoiler_at kept t ≡ spoiler_at w t
  kept-spoiler-other t n = kept-other (width * t + 13) (λ e. omega arith) (λ e. n (omega arith))

-- A table's numbers are determined by its rules and what its slots keep.
slot_same : (w v : List ℕ) (s : ℕ) → rule_at w s ≡ rule_at v s → depth_at w s ≡ depth_at v s → spoiler_at w s ≡ spoiler_at v s
    → (k : ℕ) → k < width → number_in w s k ≡ number_in v s k
slot_same w v s e d p zero l =
    let z : width * s + 0 ≡ width * s = omega arith in
    ap (λ i. get_or w i 0) z ∙ ap (λ (r : Rule). r.state) e ∙ ap (λ i. get_or v i 0) (sym z)
slot_same w v s e d p (suc zero) l = ap (λ (r : Rule). r.head.0) e
slot_same w v s e d p (suc (suc zero)) l = ap (λ (r : Rule). r.positives) e
slot_same w v s e d p (suc (suc (suc zero))) l = ap (λ (r : Rule). r.negatives) e
slot_same w v s e d p (suc (suc (suc (suc k)))) l = ⊎_elim
    (λ (m : k < 8). entry k m)
    (λ (m : 8 ≤ k). ⊎_elim (λ (h : k ≤ 8). (let z : k ≡ 8 = omega arith in
    subst (λ (i : ℕ). number_in w s (suc (suc (suc (suc i)))) ≡ number_in v s (suc (suc (suc (suc i))))) (sym z) d))
    (λ (h : 8 < k). (let z : k ≡ 9 = omega arith in
    subst (λ (i : ℕ). number_in w s (suc (suc (suc (suc i)))) ≡ number_in v s (suc (suc (suc (suc i))))) (sym z) p))
    (le-or-lt k 8))
    (lt-or-le k 8)
  where
    lt-or-le : (a b : ℕ) → (a < b) ⊎ (b ≤ a)
    lt-or-le a b = ⊎_elim (λ (m : b ≤ a). inr m) (λ (m : a < b). inl m) (le-or-lt b a)

    entry : (i : ℕ) → i < 8 → number_in w s (suc (suc (suc (suc i)))) ≡ number_in v s (suc (suc (suc (suc i))))
    entry i h =
        let q : (get_or (rule_at w s).entries i no_atom).0 ≡ (get_or (rule_at v s).entries i no_atom).0 =
        ap (λ (r : Rule). (get_or r.entries i no_atom).0) e in
        each w s i h ∙ q ∙ sym (each v s i h)
      where
        each : (u : List ℕ) (t i : ℕ) → i < 8
            → number_in u t (suc (suc (suc (suc i)))) ≡ (get_or (rule_at u t).entries i no_atom).0
        each u t zero m = refl
        each u t (suc zero) m = refl
        each u t (suc (suc zero)) m = refl
        each u t (suc (suc (suc zero))) m = refl
        each u t (suc (suc (suc (suc zero)))) m = refl
        each u t (suc (suc (suc (suc (suc zero))))) m = refl
        each u t (suc (suc (suc (suc (suc (suc zero)))))) m = refl
        each u t (suc (suc (suc (suc (suc (suc (suc zero))))))) m = refl
        each u t (suc (suc (suc (suc (suc (suc (suc (suc i)))))))) m = absurd (omega arith)

pub words-determined : (w v : List ℕ) → length w ≡ words → length v ≡ words → rules_of w ≡ rules_of v
    → ((s : ℕ) → s < document.slots → depth_at w s ≡ depth_at v s)
    → ((s : ℕ) → s < document.slots → spoiler_at w s ≡ spoiler_at v s) → w ≡ v
words-determined w v long wide e d p = ext_get_or 0 w v (long ∙ sym wide) (λ i l. (
    let m : i / width < document.slots = omega arith in
    let n : i % width < width = omega arith in
    let z : i ≡ width * (i / width) + i % width = omega arith in
    let same : rule_at w (i / width) ≡ rule_at v (i / width) =
    sym (rules-at w (i / width) m) ∙ ap (λ rs. get_or rs (i / width) past_rule) e ∙ rules-at v (i / width) m in
    ap (λ k. get_or w k 0) z
    ∙ slot_same w v (i / width) same (d (i / width) m) (p (i / width) m) (i % width) n
    ∙ ap (λ k. get_or v k 0) (sym z)))

-- All zero: every slot is free, and keeps nothing.
zero-rule : (n s : ℕ) → rule_at (replicate n 0) s ≡ free_rule
zero-rule n s =
    let q : (i : ℕ) → ◌≡◌ {A = ℕ} (get_or (replicate n 0) i 0) 0 = λ i. all_alike n i 0 in
    λ i. record {
      state = q (width * s) i;
      head = record { 0 = q (width * s + 1) i };
      positives = q (width * s + 2) i;
      negatives = q (width * s + 3) i;
      entries =
          record { 0 = q (width * s + 4) i }
          ∷ record { 0 = q (width * s + 5) i }
          ∷ record { 0 = q (width * s + 6) i }
          ∷ record { 0 = q (width * s + 7) i }
          ∷ record { 0 = q (width * s + 8) i }
          ∷ record { 0 = q (width * s + 9) i }
          ∷ record { 0 = q (width * s + 10) i }
          ∷ record { 0 = q (width * s + 11) i }
          ∷ [];
    }

pub zero-rules : (n : ℕ) → rules_of (replicate n 0) ≡ replicate document.slots free_rule
zero-rules n = ext_get_or past_rule (rules_of (replicate n 0)) (replicate document.slots free_rule)
    (rules-length (replicate n 0) ∙ sym (length-replicate document.slots free_rule))
    (λ s l. (
    let m : s < document.slots = omega (arith, rules-length (replicate n 0)) in
    rules-at (replicate n 0) s m ∙ zero-rule n s
    ∙ sym (get_or-replicate document.slots s free_rule past_rule m)))

pub zero-depth : (n s : ℕ) → depth_at (replicate n 0) s ≡ 0
zero-depth n s = all_alike n (width * s + 12) 0

pub zero-spoiler : (n s : ℕ) → spoiler_at (replicate n 0) s ≡ 0
zero-spoiler n s = all_alike n (width * s + 13) 0
