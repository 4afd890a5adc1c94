-- Records that are right one by one, and what question 19 asks of them all. Assumes nothing.
use Prim.Native.Nat.{ℕ, zero, suc, ◌+◌}
use native.Mathlib.Omega.{arith}
use mathlib.Core.Path.{◌≡◌, refl, sym, ◌∙◌, ap, subst}
use mathlib.Core.Bool.{true}
use mathlib.Core.List.{List, [], ◌∷◌, map}
use mathlib.Core.Option.{none, some, none-ne-some, some-injective}
use lib.Dec.{ltb}
use lib.ListN.{get_or, length, length-set}
use Rattle.theory.specs.Lists.{every}
use Rattle.theory.specs.Rules.{all, Page, Pages}
use Rattle.theory.specs.Questions.{rules, stratified}
use Rattle.theory.specs.Limits.{document}
use Rattle.theory.proofs.Lists.{and_l, and_r, and-of}
use Rattle.well_formed.specs.Slots.{Single}
use Rattle.file_blocks.specs.Places.{page_in_place, Place, recorded, records_from, records, rule_in}
use Rattle.file_blocks.specs.Questions.{ascends, right, distinct_rules, recorded_on, records_right, pages_with}
use Rattle.file_blocks.proofs.Bytes.{All}
use Rattle.file_blocks.proofs.Sequences.{Eight}
use Rattle.file_blocks.proofs.Records.{records-rules, distinct-held}
use Rattle.file_blocks.proofs.RoundTrips.{records-of-pages}
use Rattle.file_loading.specs.Reading.{all_are_right}

module _ (ps : List Place) where
  pub split : records_right document ps ≡ true
      → (all_are_right 0 ps ≡ true) × (distinct_rules (map rule_in ps) ≡ true)
      × (stratified (all (pages_with document ps)) ≡ true)
  unfolding records_right all_are_right
  split t =
      let up = ascends 0 (map (λ p. p.slot) ps) in
      let low = every (λ p. ltb p.slot document.slots) ps in
      let well = every (right document) ps in
      let one = distinct_rules (map rule_in ps) in
      let t₂ = and_r up _ t in
      let t₃ = and_r low _ t₂ in
      let t₄ = and_r well _ t₃ in
      (and-of up _ (and_l up _ t) (and-of low _ (and_l low _ t₂) (and_l well _ t₃)), and_l one _ t₄, and_r one _ t₄)

  pub join :
      all_are_right 0 ps ≡ true → distinct_rules (map rule_in ps) ≡ true → stratified (all (pages_with document ps)) ≡ true
      → records_right document ps ≡ true
  unfolding records_right all_are_right
  join a d t =
      let up = ascends 0 (map (λ p. p.slot) ps) in
      let low = every (λ p. ltb p.slot document.slots) ps in
      let well = every (right document) ps in
      let a₂ = and_r up _ a in
      and-of up _ (and_l up _ a)
      (and-of low _ (and_l low _ a₂)
      (and-of well _ (and_r low _ a₂) (and-of (distinct_rules (map rule_in ps)) _ d t)))

  -- the rules of the records are those of their pages
  module _ (eight : All Eight ps) (a : all_are_right 0 ps ≡ true) where
    pub all_right : every (right document) ps ≡ true
    unfolding all_are_right
    all_right =
        let up = ascends 0 (map (λ p. p.slot) ps) in
        let low = every (λ p. ltb p.slot document.slots) ps in
        and_r low _ (and_r up _ a)

    pub same-records : records (pages_with document ps) ≡ ps
    unfolding all_are_right
    same-records =
        let up = ascends 0 (map (λ p. p.slot) ps) in
        let low = every (λ p. ltb p.slot document.slots) ps in
        records-of-pages document (omega arith) ps eight (and_l up _ a) (and_l low _ (and_r up _ a)) all_right

    pub same-rules : map rule_in ps ≡ rules (all (pages_with document ps))
    same-rules = ap (map rule_in) (sym same-records) ∙ records-rules 0 (pages_with document ps)

    pub once : distinct_rules (map rule_in ps) ≡ true → Single (all (pages_with document ps))
    once d = distinct-held (all (pages_with document ps)) (sym (ap distinct_rules same-rules) ∙ d)

-- What holds of every record holds of that of each page with a rule.
pub all_held :
    (F : Place → Type 0) (s : ℕ) (B : Pages) → All F (records_from s B) → (t : ℕ) (p : Page) → get_or B t none ≡ some p
    → F (recorded (s + t) p)
unfolding records_from
all_held F s [] a t p h = absurd (none-ne-some p h)
all_held F s (none ∷ B) a zero p h = absurd (none-ne-some p h)
all_held F s (none ∷ B) a (suc t) p h =
    let e : suc s + t ≡ s + suc t = omega arith in
    subst (λ (k : ℕ). F (recorded k p)) e (all_held F (suc s) B a t p h)
all_held F s (some q ∷ B) a zero p h =
    let e : s ≡ s + 0 = omega arith in
    subst (λ (k : ℕ). F (recorded k p)) e
    (subst (λ (z : Page). F (recorded s z)) (some-injective q p h) a.0)
all_held F s (some q ∷ B) a (suc t) p h =
    let e : suc s + t ≡ s + suc t = omega arith in
    subst (λ (k : ℕ). F (recorded k p)) e (all_held F (suc s) B a.1 t p h)

-- Records keep the number of pages.
pub pages-length : (B : Pages) (ps : List Place) → length (recorded_on document B ps) ≡ length B
unfolding recorded_on
pages-length B [] = refl
pages-length B (p ∷ ps) = pages-length _ ps ∙ length-set B p.slot (some (page_in_place p))
