-- Laws of one slot compared with what it has to keep. Assumes nothing.
use Prim.Native.Nat.{ℕ, zero, ◌≤◌}
use native.Mathlib.Omega.{arith}
use mathlib.Core.Path.{◌≡◌, refl, sym, ◌∙◌, ap}
use mathlib.Core.Logic.{⊎_elim}
use mathlib.Core.Bool.{Bool, true, false, cond}
use mathlib.Core.List.{List}
use mathlib.Core.Option.{Option, none, some}
use lib.Dec.{leb}
use Rattle.theory.specs.Rules.{Rule}
use Rattle.theory.specs.Models.{AtomSet, valid}
use Rattle.theory.specs.Certificate.{level, SlotConfirmed}
use Rattle.theory.proofs.Lists.{clash, is_not, le-leb, leb-le, test}
use Rattle.table.specs.Sets.{member}
use Rattle.dues.specs.declared.Due.{Due}
use Rattle.dues.specs.Due.{DueIn, valid_level}
use Rattle.certificate.specs.Compared.{Compared}

-- A slot, o, that keeps this depth and spoiler, and what is due.
module _ (M : AtomSet) (d : ℕ → ℕ) (o : Option Rule) (before after : List Bool) (u : Due)
    (D : DueIn M d o before after u) (depth spoiler : ℕ) where
  denied : (SlotConfirmed M d (member before) o depth spoiler → ⊥) → Compared M d o before after depth spoiler false
  denied f = record { test = is_not f; given = D.given }

  pub other-depth : (depth ≡ u.depth → ⊥) → Compared M d o before after depth spoiler false
  other-depth n = denied (λ C. n (C.due ∙ sym D.depth))

  pub other-spoiler : (spoiler ≡ u.spoiler → ⊥) → Compared M d o before after depth spoiler false
  other-spoiler n = denied (λ C. n (C.spoilt ∙ sym D.spoiler))

  -- the level due to a valid rule is its own
  deep : (r : Rule) → o ≡ some r → valid M r ≡ true → u.level ≡ level d r
  deep r h v = D.level ∙ ap (valid_level M d) h ∙ ap (λ (b : Bool). cond b (level d r) zero) v

  -- Both are as due.
  module _ (e : depth ≡ u.depth) (f : spoiler ≡ u.spoiler) where
    confirms :
        ((r : Rule) → o ≡ some r → valid M r ≡ true → (M r.head ≡ true) × (d r.head ≤ level d r))
        → SlotConfirmed M d (member before) o depth spoiler
    confirms w = record {
      closed = λ r h v. (w r h v).0;
      least = λ r h v. (w r h v).1;
      due = e ∙ D.depth;
      spoilt = f ∙ D.spoiler;
    }

    -- Without a level the slot has no valid rule.
    pub no-level : u.level ≡ 0 → Compared M d o before after depth spoiler true
    no-level z = record {
      test = (λ t. confirms (λ r h v. absurd (omega (arith, deep r h v))), λ C. refl);
      given = D.given;
    }

    -- With one it has a valid rule, whose head is a.
    module _ (n : u.level ≡ 0 → ⊥) (a : ℕ) (heads : (r : Rule) → o ≡ some r → r.head ≡ a) where
      there : (r : Rule) × (o ≡ some r) × (valid M r ≡ true)
      there = go o refl
        where
          go : (p : Option Rule) → o ≡ p → (r : Rule) × (o ≡ some r) × (valid M r ≡ true)
          go none h = absurd (n (D.level ∙ ap (valid_level M d) h))
          go (some r) h = (
            r,
            h,
            ⊎_elim
                (λ (v : valid M r ≡ true). v)
                (λ (v : valid M r ≡ false). absurd (n (D.level ∙ ap (valid_level M d) h
                ∙ ap (λ (b : Bool). cond b (level d r) zero) v)))
                (test (valid M r)),
          )

      pub head-out : M a ≡ false → Compared M d o before after depth spoiler false
      head-out m = (let w = there in
          denied (λ C. clash (ap M (sym (heads w.0 w.1)) ∙ C.closed w.0 w.1 w.2) m))

      pub head_in : M a ≡ true → (x : ℕ) → x ≡ d a
          → Compared M d o before after depth spoiler (leb x u.level)
      head_in m x k = record {
        test = (
          λ t. confirms (λ r h v. (
              let q : d r.head ≡ d a = ap d (heads r h) in
              (ap M (heads r h) ∙ m, omega (arith, deep r h v, leb-le x u.level t)))),
          λ C. (
              let w = there in
              let q : d w.0.head ≡ d a = ap d (heads w.0 w.1) in
              le-leb x u.level (omega (arith, deep w.0 w.1 w.2, C.least w.0 w.1 w.2))),
        );
        given = D.given;
      }
