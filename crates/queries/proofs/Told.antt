-- A label, a spoiler and a rule told as an answer. Assumes nothing.
use Rattle.std.specs.Prelude.{Ok}
use Rattle.table.specs.declared.Label.TheVariants.{Absent, Out, In}
use Rattle.calls.specs.declared.RuleStatus.TheVariants as spoilt
use Prim.Native.Nat.{ℕ, suc, ◌+◌, ◌-◌, ◌≤◌, ◌<◌, min}
use native.Mathlib.Omega.{arith}
use mathlib.Core.Path.{◌≡◌, refl, sym, ◌∙◌, ap}
use mathlib.Core.Bool.{cond}
use mathlib.Core.Logic.{⊎_elim}
use mathlib.Core.List.{List, [], ◌∷◌}
use lib.Dec.{leb}
use lib.ListN.{length, get_or, take, drop, length-drop, length-map, length-take, get_or-append, get_or-eq_default}
use lib.ListN.{get_or-map}
use lib.Seq.{get_or-append-add, get_or-take}
use Rattle.theory.specs.Rules.{entries}
use Rattle.theory.specs.Rules as theory
use Rattle.theory.specs.Slots.{spoiler_at_place}
use Rattle.theory.specs.Limits.{document}
use Rattle.theory.proofs.Lists.{le-leb, le-or-lt, leb-le, unless}
use Rattle.theory.proofs.Slots.{at-negative, at-positive}
use Rattle.table.specs.declared.Atom.{Atom}
use Rattle.table.specs.declared.Label.{Label}
use Rattle.table.specs.declared.Rule.{Rule}
use Rattle.table.specs.Rules.{no_atom, numbers, rule_of}
use Rattle.table.specs.Clean.{CleanRule}
use Rattle.table.specs.Labels.{label_of}
use Rattle.table.proofs.Entries.{entries-are}
use Rattle.calls.specs.Answers.{SpoilerAnswer}
use Rattle.calls.specs.Answers.{tell_label, tell_spoiler}
use Rattle.queries.specs.RuleTold.{plain_numbers, tell_numbers}

-- What is answered of a label is the label.
pub label-told : (l : Label) → Ok l ≡ tell_label (label_of l)
label-told Absent = refl
label-told Out = refl
label-told (In d s) = refl

-- At place 0 of a rule there is no spoiler.
pub told-valid : (q : theory.Rule) (place : ℕ) → place ≡ 0 → Ok spoilt.Valid ≡ tell_spoiler (spoiler_at_place q place)
unfolding spoiler_at_place
told-valid q place z = sym (ap (λ k. tell_spoiler (spoiler_at_place q k)) z)

-- The entries of a rule's two lists: how many there are.
module _ (r : Rule) (long : length r.entries ≡ document.entries) where
  abbrev most : ℕ
  most = min (r.positives + r.negatives) document.entries

  all : numbers (take most r.entries) ≡ entries (rule_of r)
  all = entries-are r document.entries long most refl

  count : length (entries (rule_of r)) ≡ most
  count =
      ap length (sym all) ∙ length-map (take most r.entries) (λ (a : Atom). a.0)
      ∙ (let e : min most (length r.entries) ≡ most = omega arith in length-take most r.entries ∙ e)

-- The entry k of a rule, at the place after k.
module _ (r : Rule) (long : length r.entries ≡ document.entries) (place k : ℕ) (after : place ≡ suc k)
    (low : place ≤ length (entries (rule_of r))) where
  abbrev q : theory.Rule
  q = rule_of r

  pub entry-low : k < document.entries
  entry-low = omega (arith, count r long)

  at_entry : get_or (entries q) k 0 ≡ (get_or r.entries k no_atom).0
  at_entry =
      ap (λ (xs : List ℕ). get_or xs k 0) (sym (all r long))
      ∙ get_or-map (λ (a : Atom). a.0) (take (most r long) r.entries) k no_atom
      ∙ ap (λ (a : Atom). a.0) (get_or-take (most r long) r.entries k no_atom (omega (arith, count r long)))

  module _ (n : ℕ) (end : n ≡ min r.positives document.entries) where
    positive-count : length q.positives ≡ n
    positive-count =
        length-map (take r.positives r.entries) (λ (a : Atom). a.0)
        ∙ length-take r.positives r.entries ∙ ap (min r.positives) long ∙ sym end

    pub told-positive : k < n → Ok (spoilt.Positive k (get_or r.entries k no_atom)) ≡ tell_spoiler (spoiler_at_place q place)
    told-positive l =
        let here : k < length q.positives = omega (arith, positive-count) in
        let x : get_or q.positives k 0 ≡ (get_or r.entries k no_atom).0 =
        sym (get_or-append q.positives q.negatives 0 k here) ∙ at_entry in
        sym (ap (λ i. tell_spoiler (spoiler_at_place q i)) after ∙ ap tell_spoiler (at-positive q k here)
        ∙ ap (λ y. Ok (spoilt.Positive k (record { 0 = y }))) x)

    pub told-negative :
        n ≤ k → Ok (spoilt.Negative (k - n) (get_or r.entries k no_atom)) ≡ tell_spoiler (spoiler_at_place q place)
    told-negative l =
        let i = k - n in
        let there : length q.positives + i ≡ k = omega (arith, positive-count) in
        let x : get_or q.negatives i 0 ≡ (get_or r.entries k no_atom).0 =
        sym (get_or-append-add q.positives q.negatives i 0) ∙ ap (λ j. get_or (entries q) j 0) there ∙ at_entry in
        sym (ap (λ j. tell_spoiler (spoiler_at_place q j)) (after ∙ ap suc (sym there)) ∙ ap tell_spoiler (at-negative q i)
        ∙ ap (λ y. Ok (spoilt.Negative i (record { 0 = y }))) x)

-- A clean rule's numbers are those that tell it.
module _ (r : Rule) (clean : CleanRule r) (long : length r.entries ≡ document.entries) where
  each : (i : ℕ) → (get_or r.entries i no_atom).0 ≡ get_or (entries (rule_of r)) i 0
  each i = ⊎_elim
      (λ (l : r.positives + r.negatives ≤ i). (
      let past : length (entries (rule_of r)) ≤ i = omega (arith, count r long) in
      ap (λ (a : Atom). a.0) (clean.filler i l) ∙ sym (get_or-eq_default (entries (rule_of r)) 0 past)))
      (λ (l : i < r.positives + r.negatives). (
      let low : suc i ≤ length (entries (rule_of r)) = omega (arith, count r long, clean.fits) in
      sym (at_entry r long (suc i) i refl low)))
      (le-or-lt (r.positives + r.negatives) i)

  positives : r.positives ≡ length (rule_of r).positives
  positives = (let e = clean.fits in omega (
    arith,
    length-map (take r.positives r.entries) (λ (a : Atom). a.0),
    length-take r.positives r.entries,
  ))

  negatives : r.negatives ≡ length (rule_of r).negatives
  negatives =
      let e = clean.fits in
      omega (
        arith,
        length-map (take r.negatives (drop r.positives r.entries)) (λ (a : Atom). a.0),
        length-take r.negatives (drop r.positives r.entries),
        length-drop r.positives r.entries,
      )

  pub plain-told : plain_numbers r ≡ tell_numbers (record { rule = rule_of r; muted = leb 2 r.state })
  plain-told = λ i. record {
    head = r.head.0;
    muted = leb 2 r.state;
    positives = positives i;
    negatives = negatives i;
    entries =
        each 0 i ∷ each 1 i ∷ each 2 i ∷ each 3 i ∷ each 4 i ∷ each 5 i ∷ each 6 i ∷ each 7 i ∷ [];
  }

-- A slot's rule told by its state.
module _ (n : ℕ) (x : SpoilerAnswer) where
  pub told-muted : 1 < n → Ok spoilt.Muted ≡ cond (leb 2 n) (Ok spoilt.Muted) x
  told-muted l = sym (ap (λ b. cond b (Ok spoilt.Muted) x) (le-leb 2 n (omega arith)))

  pub told-unmuted : n ≤ 1 → x ≡ cond (leb 2 n) (Ok spoilt.Muted) x
  told-unmuted l =
      sym (ap (λ b. cond b (Ok spoilt.Muted) x) (unless (leb 2 n) (λ t. omega (arith, leb-le 2 n t))))
