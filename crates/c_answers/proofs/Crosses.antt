-- How an answer crosses, by its case; how many entries a refusal needs. Assumes nothing.
use Prim.Native.Nat.{ℕ}
use mathlib.Core.Path.{◌≡◌, sym, ◌∙◌, ap}
use mathlib.Core.Logic.{⊎_elim}
use Rattle.refusals.specs.declared.Refusal.{Refusal}
use Rattle.refusals.specs.declared.Refusal.TheVariants.{BufferTooShort}
use Rattle.refusals.specs.Refusals.{number_of, needed_by}
use Rattle.refusals.proofs.Refusals.{Plain, plain-or-11}

-- An answer crosses as its case does; and a refusal as its number n says, where `made` is the struct of a number.
case-crosses : {A B : Type 0} (cross : A → B) (x y : A) → x ≡ y → cross y ≡ cross x
case-crosses cross x y e = ap cross (sym e)

refusal-crosses :
    {A B : Type 0} (cross : A → B) (made : ℕ → B) (x y : A) (f : Refusal) (n : ℕ) → cross y ≡ made (number_of f) → x ≡ y
    → n ≡ number_of f → made n ≡ cross x
refusal-crosses cross made x y f n c e d = ap made d ∙ (sym c ∙ case-crosses cross x y e)

-- Every refusal but 11 needs no entries.
pub none_needed : (f : Refusal) → ((m : ℕ) → f ≡ BufferTooShort m → ⊥) → 0 ≡ needed_by f
none_needed f h = ⊎_elim
    (λ (p : Plain f). sym p.none)
    (λ (b : (m : ℕ) × (f ≡ BufferTooShort m)). absurd (h b.0 b.1))
    (plain-or-11 f)
