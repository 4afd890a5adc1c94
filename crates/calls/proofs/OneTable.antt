-- Two sound tables that hold the same rules with the same marks are equal: these determine every field. Assumes
-- nothing.
use Prim.Native.Nat.{ℕ, zero, suc, min, ◌+◌, ◌-◌, ◌≤◌, ◌<◌}
use native.Mathlib.Omega.{arith}
use native.Mathlib.Decide.{ℕ_discrete}
use mathlib.Core.Path.{◌≡◌, refl, sym, ◌∙◌, ap, subst}
use mathlib.Core.Logic.{⊎_elim}
use mathlib.Core.List.{List}
use mathlib.Core.Option.{Option, none, some, some-injective}
use lib.ListN.{length, get_or, take, drop, length-map, get_or-map, length-drop}
use lib.Seq.{ext_get_or, get_or-take, get_or-drop, length-take-le}
use Rattle.theory.specs.Rules.{Page, Pages, rule_on}
use Rattle.theory.specs.Rules as theory
use Rattle.theory.specs.Sound.{SoundSlots}
use Rattle.theory.specs.Limits.{document}
use Rattle.theory.proofs.Lists.{le-or-lt}
use Rattle.theory.proofs.Slots.{slots-determined}
use Rattle.table.specs.declared.Atom.{Atom}
use Rattle.table.specs.declared.Rule.{Rule}
use Rattle.table.specs.declared.Table.{Table}
use Rattle.table.specs.Rules.{numbers, rule_of, page_in, page_of, state_of, no_atom, past_rule}
use Rattle.table.specs.Words.{rules_of, depth_at, spoiler_at}
use Rattle.table.specs.Clean.{CleanRule}
use Rattle.table.specs.Sound.{Sound}
use Rattle.table.proofs.Programs.{book-at, slot_held}
use Rattle.table.proofs.Words.{rules-length, rules-at, words-determined}
use Rattle.calls.specs.Ends.{held, Sized}

-- Atoms of equal numbers are equal.
atom-path : (a b : Atom) → a.0 ≡ b.0 → a ≡ b
atom-path a b e = λ i. record { 0 = e i }

rule-path :
    (q r : Rule) → q.state ≡ r.state → q.head.0 ≡ r.head.0 → q.positives ≡ r.positives
    → q.negatives ≡ r.negatives → q.entries ≡ r.entries → q ≡ r
rule-path q r s h p n e =
    λ i. record { state = s i; head = record { 0 = h i }; positives = p i; negatives = n i; entries = e i }

-- The numbers of a list of atoms, by places.
numbers-at : (es : List Atom) (i : ℕ) → get_or (numbers es) i 0 ≡ (get_or es i no_atom).0
numbers-at es i = get_or-map (λ a. a.0) es i no_atom

numbers-length : (es : List Atom) → length (numbers es) ≡ length es
numbers-length es = length-map es (λ a. a.0)

-- A clean held rule: the counts are the lengths of its lists.
module _ (r : Rule) (C : CleanRule r) (L : length r.entries ≡ document.entries) where
  positives-length : length (rule_of r).positives ≡ r.positives
  positives-length =
      numbers-length (take r.positives r.entries)
      ∙ length-take-le r.positives r.entries (omega (arith, C.fits))

  negatives-length : length (rule_of r).negatives ≡ r.negatives
  negatives-length =
      numbers-length (take r.negatives (drop r.positives r.entries))
      ∙ length-take-le r.negatives (drop r.positives r.entries)
      (omega (arith, C.fits, length-drop r.positives r.entries))

  positive-at : (i : ℕ) → i < r.positives → get_or (rule_of r).positives i 0 ≡ (get_or r.entries i no_atom).0
  positive-at i l =
      numbers-at (take r.positives r.entries) i ∙ ap
      (λ (a : Atom). a.0) (get_or-take r.positives r.entries i no_atom l)

  negative-at :
      (i : ℕ) → i < r.negatives → get_or (rule_of r).negatives i 0 ≡ (get_or r.entries (r.positives + i) no_atom).0
  negative-at i l =
      numbers-at (take r.negatives (drop r.positives r.entries)) i
      ∙ ap (λ (a : Atom). a.0) (get_or-take r.negatives (drop r.positives r.entries) i no_atom l
      ∙ get_or-drop r.positives r.entries i no_atom)

-- A rule read off a table's numbers has all its entries.
entries-length :
    (w : List ℕ) (s : ℕ) → s < document.slots → length (get_or (rules_of w) s past_rule).entries ≡ document.entries
entries-length w s l = ap (λ (r : Rule). length r.entries) (rules-at w s l)

-- The state of a slot, as far as its page tells it.
state-of : Option Page → ℕ
state-of none = 0
state-of (some p) = state_of p.muted

page-state : (n : ℕ) (r : theory.Rule) → state-of (page_in n r) ≡ min n 2
unfolding state-of
page-state zero r = refl
page-state (suc zero) r = refl
page-state (suc (suc n)) r = omega arith

-- Two clean slots that hold the same, with the same mark, are equal.
module _ (q r : Rule) (C : CleanRule q) (D : CleanRule r) (L : length q.entries ≡ document.entries)
    (K : length r.entries ≡ document.entries) where
  held-equal : rule_of q ≡ rule_of r → q.state ≡ r.state → q ≡ r
  held-equal e same =
      let p : q.positives ≡ r.positives =
      sym (positives-length q C L) ∙ ap (λ (x : theory.Rule). length x.positives) e ∙ positives-length r D K in
      let n : q.negatives ≡ r.negatives =
      sym (negatives-length q C L) ∙ ap (λ (x : theory.Rule). length x.negatives) e ∙ negatives-length r D K in
      rule-path q r same (ap (λ (x : theory.Rule). x.head) e) p n
      (ext_get_or no_atom q.entries r.entries (L ∙ sym K) (λ i l. ⊎_elim
      (λ (k : q.positives ≤ i). ⊎_elim
      (λ (j : q.positives + q.negatives ≤ i). C.filler i j ∙ sym (D.filler i (omega arith)))
      (λ (j : i < q.positives + q.negatives). (
      let m = i - q.positives in
      let u : q.positives + m ≡ i = omega arith in
      let w : r.positives + m ≡ i = omega arith in
      atom-path _ _ (ap (λ (z : ℕ). (get_or q.entries z no_atom).0) (sym u)
      ∙ sym (negative-at q C L m (omega arith))
      ∙ ap (λ (x : theory.Rule). get_or x.negatives m 0) e
      ∙ negative-at r D K m (omega arith)
      ∙ ap (λ (z : ℕ). (get_or r.entries z no_atom).0) w)))
      (le-or-lt (q.positives + q.negatives) i))
      (λ (k : i < q.positives). atom-path _ _ (sym (positive-at q C L i k)
      ∙ ap (λ (x : theory.Rule). get_or x.positives i 0) e
      ∙ positive-at r D K i (omega arith)))
      (le-or-lt q.positives i)))

  pub slot-equal : page_of q ≡ page_of r → q ≡ r
  slot-equal e = elim (ℕ_discrete r.state 0) [
    | yes z ↦ C.free (same ∙ z) ∙ sym (D.free z)
    | no h ↦ held-equal (some-injective (rule_of q) (rule_of r)
        (sym (slot_held q (λ z. h (sym same ∙ z))) ∙ ap rule_on e ∙ slot_held r h)) same
  ]
    where
      same : q.state ≡ r.state
      same = omega (
        arith,
        C.known,
        D.known,
        sym (page-state q.state (rule_of q)) ∙ ap state-of e ∙ page-state r.state (rule_of r),
      )

-- Two sound tables that hold the same rules with the same marks are equal. Idea: slots are clean, so a page tells every
-- field of its rule (`slot-equal`); what both keep of each slot is determined by the same pages (`slots-determined`).
pub table-unique : (t u : Table) → Sized t → Sized u → Sound t → Sound u → held t ≡ held u → t ≡ u
table-unique t u Z Y S T e = λ i. record { words = same i }
  where
    rules : rules_of t.words ≡ rules_of u.words
    rules = ext_get_or past_rule (rules_of t.words) (rules_of u.words)
        (rules-length t.words ∙ sym (rules-length u.words)) (λ s l. (
        let k : s < document.slots = omega (arith, rules-length t.words) in
        slot-equal (get_or (rules_of t.words) s past_rule) (get_or (rules_of u.words) s past_rule) (S.clean s k)
        (T.clean s k) (entries-length t.words s k) (entries-length u.words s k)
        (sym (book-at (rules_of t.words) s) ∙ ap (λ (B : Pages). get_or B s none) e
        ∙ book-at (rules_of u.words) s)))

    kept :
        (s : ℕ) → s < document.slots
        → (depth_at t.words s ≡ depth_at u.words s) × (spoiler_at t.words s ≡ spoiler_at u.words s)
    kept s l =
        slots-determined (held u) T.rules.acyclic (depth_at t.words) (spoiler_at t.words) (depth_at u.words)
        (spoiler_at u.words)
        (subst (λ (B : Pages). SoundSlots B (depth_at t.words) (spoiler_at t.words)) e S.kept) T.kept s
        (omega (arith, T.rules.slots))

    same : t.words ≡ u.words
    same =
        words-determined t.words u.words Z.long Y.long rules (λ s l. (kept s l).0) (λ s l. (kept s l).1)
