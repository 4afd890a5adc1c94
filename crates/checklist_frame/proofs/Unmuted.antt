-- Laws of pages of which none is muted: all their rules are the unmuted ones. Assumes nothing.
use Prim.Native.Nat.{ℕ, zero, suc}
use mathlib.Core.Path.{◌≡◌, refl, sym, ◌∙◌, ap, ap₂}
use mathlib.Core.Bool.{Bool, true, false}
use mathlib.Core.List.{[], ◌∷◌}
use mathlib.Core.Option.{Option, none, some, none-ne-some, some-injective}
use lib.ListN.{get_or, set}
use Rattle.theory.specs.Lists.{every}
use Rattle.theory.specs.Rules.{active, active_on, all, Page, Pages, Program, Rule, rule_on}
use Rattle.theory.proofs.Lists.{and_l, and_r, and-of, not-true}
use Rattle.checklist_frame.specs.Frame.{unmuted_on, none_muted}

-- A page by its mark: what it holds unmuted is its rule, or nothing.

pub page-active : (p : Page) → p.muted ≡ false → active_on (some p) ≡ some p.rule
page-active p e = ap (λ (m : Bool). elim m [ true ↦ none | false ↦ some p.rule ]) e

pub active-page : (p : Page) (r : Rule) → active_on (some p) ≡ some r → (p.muted ≡ false) × (p.rule ≡ r)
active-page p r = go p.muted
  where
    go : (m : Bool) → elim m [ true ↦ none | false ↦ some p.rule ] ≡ some r → (m ≡ false) × (p.rule ≡ r)
    go true e = absurd (none-ne-some r e)
    go false e = (refl, some-injective _ _ e)

-- Where no page is muted, none is in any place, and the other way round.

pub unmuted-at : (B : Pages) → none_muted B ≡ true → (s : ℕ) → unmuted_on (get_or B s none) ≡ true
unfolding every
unmuted-at [] t s = refl
unmuted-at (o ∷ B) t zero = and_l (unmuted_on o) _ t
unmuted-at (o ∷ B) t (suc s) = unmuted-at B (and_r (unmuted_on o) _ t) s

pub unmuted-of : (B : Pages) → ((s : ℕ) → unmuted_on (get_or B s none) ≡ true) → none_muted B ≡ true
unfolding every
unmuted-of [] f = refl
unmuted-of (o ∷ B) f = and-of _ _ (f 0) (unmuted-of B (λ s. f (suc s)))

pub unmuted-page :
    (B : Pages) → none_muted B ≡ true → (s : ℕ) (p : Page) → get_or B s none ≡ some p → p.muted ≡ false
unmuted-page B t s p e = not-true p.muted (ap unmuted_on (sym e) ∙ unmuted-at B t s)

-- Putting a page that is free or unmuted leaves none muted.
pub unmuted-set :
    (B : Pages) (s : ℕ) (o : Option Page) → none_muted B ≡ true → unmuted_on o ≡ true → none_muted (set B s o) ≡ true
unfolding every
unmuted-set [] s o t u = refl
unmuted-set (q ∷ B) zero o t u = and-of _ _ u (and_r (unmuted_on q) _ t)
unmuted-set (q ∷ B) (suc s) o t u =
    and-of _ _ (and_l (unmuted_on q) _ t) (unmuted-set B s o (and_r (unmuted_on q) _ t) u)

-- Then the unmuted rules are all rules held.
pub active-all : (B : Pages) → none_muted B ≡ true → active B ≡ all B
unfolding every
active-all [] t = refl
active-all (o ∷ B) t = ap₂ {C = Program} (λ q P. q ∷ P) (same o (and_l (unmuted_on o) _ t))
    (active-all B (and_r (unmuted_on o) _ t))
  where
    same : (q : Option Page) → unmuted_on q ≡ true → active_on q ≡ rule_on q
    same none u = refl
    same (some p) u = page-active p (not-true p.muted u)
