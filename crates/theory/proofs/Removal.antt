-- A rule stands in at most one slot, in whatever order it was given; removing it takes away the label's last such
-- ground (request #102). Assumes nothing.
use Prim.Native.Nat.{ℕ, ◌<◌}
use mathlib.Core.Path.{◌≡◌, refl, sym, ◌∙◌, ap, subst}
use mathlib.Core.Bool.{true, false}
use mathlib.Core.Option.{none, none-ne-some}
use lib.ListN.{get_or, length, set}
use lib.Seq.{get_or-set_same}
use Rattle.theory.specs.Rules.{active, all, any_rule, Held, Pages, Program, Rule, same}
use Rattle.theory.specs.Models.{Admissible, AtomSet}
use Rattle.theory.specs.Labels.{is_absent, is_in, is_out, Label, Labelled}
use Rattle.theory.specs.Limits.{Limits}
use Rattle.theory.specs.Questions.{is_in_label}
use Rattle.theory.specs.Sound.{SoundRules}
use Rattle.theory.proofs.Lists.{clash, unless}
use Rattle.theory.proofs.Rules.{any_rule-at, any_rule-of, rules-at}
use Rattle.theory.proofs.Pages.{active-held, all_set}
use Rattle.theory.proofs.Found.{ordered-rule}
use Rattle.theory.proofs.Questions.{held_below, other-set}
use Rattle.theory.proofs.Sameness.{same-sym, same-trans}

-- A rule held after slot s was freed stands in another slot, where it was held before.
pub freed :
    (P : Program) (s t : ℕ) (r : Rule) → s < length P → Held (set P s none) t r → (t ≡ s → ⊥) × Held P t r
freed P s t r l h = (other, other-set P s t none r other h)
  where
    other : t ≡ s → ⊥
    other e =
        none-ne-some r
        (sym (get_or-set_same P s none none l) ∙ ap (λ (k : ℕ). get_or (set P s none) k none) (sym e) ∙ h)

module _ (limits : Limits) (B : Pages) (S : SoundRules limits B) (x : Rule) where
  -- At most one slot holds a rule that is the same as x, muted or not.
  pub one-slot :
      (s t : ℕ) (q r : Rule) → Held (all B) s q → Held (all B) t r → same x q ≡ true → same x r ≡ true → s ≡ t
  one-slot s t q r h i u v = S.single s t q r h i (same-trans q x r (same-sym x q u) v)

  -- A slot s holds one.
  module _ (s : ℕ) (q : Rule) (h : Held (all B) s q) (u : same x q ≡ true) where
    -- Once that slot is free, none holds one.
    pub none_left : any_rule (same x) (set (all B) s none) ≡ false
    none_left = unless _ (λ t. (
        let w = any_rule-at (same x) (set (all B) s none) t in
        let f = freed (all B) s w.0 w.1 (held_below (all B) s q h) w.2 in
        f.0 (one-slot w.0 s w.1 q f.1 h w.3 u)))

    -- Where no other rule has x's head, the head is not in any more.
    module _ (only : (t : ℕ) (r : Rule) → Held (all B) t r → r.head ≡ x.head → same x r ≡ true)
        (M : AtomSet) (A : Admissible (active (set B s none)) M) where
      pub head-out : M x.head ≡ false
      head-out = unless _ (λ t. (
          let w = ordered-rule (active (set B s none)) M A.founded.order A.founded.ordered x.head
          ((A.founded.exactly x.head).0 t) in
          let v = rules-at (active (set B s none)) w.0 w.1 in
          let i = subst (λ (P : Program). Held P v.0 w.0) (all_set B s none)
          (active-held (set B s none) v.0 w.0 v.1) in
          let f = freed (all B) s v.0 w.0 (held_below (all B) s q h) i in
          clash (any_rule-of (same x) (set (all B) s none) v.0 w.0 i (only v.0 w.0 f.1 w.2))
          none_left))

      pub ground-gone : (l : Label) → Labelled (set B s none) M x.head l → is_in_label l ≡ false
      ground-gone l (is_absent n) = refl
      ground-gone l (is_out o f) = refl
      ground-gone l (is_in t d z) = absurd (clash t head-out)
