-- Laws of what is due. Assumes nothing.
use Prim.Native.Nat.{ℕ, zero, suc, ◌+◌, ◌<◌, min}
use native.Mathlib.Omega.{arith}
use native.Mathlib.Numerals.{add-one}
use mathlib.Core.Path.{◌≡◌, refl, sym, ◌∙◌, ap, ap₂}
use mathlib.Core.Bool.{Bool, true, false, not, ◌&&◌, ◌||◌, cond}
use mathlib.Core.List.{List}
use mathlib.Core.Option.{Option, some}
use lib.Dec.{eqb}
use lib.ListN.{length, set, length-set, length-map, length-take}
use Rattle.theory.specs.Rules.{passes}
use Rattle.theory.specs.Rules as theory
use Rattle.theory.specs.Models.{AtomSet, valid}
use Rattle.theory.specs.Labels.{spoiler, place_over}
use Rattle.theory.specs.Slots.{place_kept}
use Rattle.theory.specs.Certificate.{level, gives?, depth_due}
use Rattle.theory.specs.Limits.{document}
use Rattle.theory.proofs.Lists.{clash, eqb-eq, eqb-not, eqb_of, unless}
use Rattle.theory.proofs.Slots.{place-valid}
use Rattle.std.specs.Prelude.{Some}
use Rattle.std.specs.Prelude as rust
use Rattle.table.specs.declared.Atom.{Atom}
use Rattle.table.specs.declared.Rule.{Rule}
use Rattle.table.specs.declared.Spoiler.{Spoiler}
use Rattle.table.specs.declared.Spoiler.TheVariants.{Positive, Negative}
use Rattle.table.specs.Sets.{member}
use Rattle.table.specs.Rules.{rule_of, active_in, spoiler_of}
use Rattle.table.proofs.Members.{mark-in, mark-other}
use Rattle.table.proofs.Programs.{active-none, active-some}
use Rattle.dues.specs.Due.{valid_level, Given, DueIn, DepthDue, gives_at}

-- A rule with a place is not valid.
placed-invalid : (M : AtomSet) (r : theory.Rule) → (place_over r (spoiler M r) ≡ 0 → ⊥) → valid M r ≡ false
placed-invalid M r n = unless _ (λ t. n ((place-valid M r).1 t))

-- The depth due to a slot with a valid rule of this head and level, where x is the head's depth.
module _ (d : ℕ → ℕ) (head level x : ℕ) (deep : x ≡ d head) (before : List Bool) where
  pub deep-other : (x ≡ level → ⊥) → DepthDue d head level before before 0
  deep-other n =
      let e : gives_at d head level ≡ false = eqb-not level (d head) (λ z. n (deep ∙ sym z)) in
      record {
        depth = sym (ap (λ b. cond (b && not (member before head)) (d head) zero) e);
        given = sym (ap (λ b. cond (b && not (member before head)) (set before head true) before) e);
      }

  module _ (same : x ≡ level) where
    gives-it : gives_at d head level ≡ true
    gives-it = eqb_of level (d head) (sym same ∙ deep)

    pub deep-again : member before head ≡ true → DepthDue d head level before before 0
    deep-again t = record {
      depth = sym (ap₂ (λ b c. cond (b && not c) (d head) zero) gives-it t);
      given = sym (ap₂ (λ b c. cond (b && not c) (set before head true) before) gives-it t);
    }

    pub deep-first : member before head ≡ false → (after : List Bool) → after ≡ set before head true
        → DepthDue d head level before after x
    deep-first t after e = record {
      depth = deep ∙ sym (ap₂ (λ b c. cond (b && not c) (d head) zero) gives-it t);
      given = e ∙ sym (ap₂ (λ b c. cond (b && not c) (set before head true) before) gives-it t);
    }

-- The place of a spoiler in the positive list.
pub place-positive : (r : Rule) (f : rust.Option Spoiler) (i : ℕ) (a : Atom) → f ≡ Some (Positive i a)
    → i + 1 ≡ place_over (rule_of r) (spoiler_of f)
place-positive r f i a e = add-one i ∙ sym (ap (λ g. place_over (rule_of r) (spoiler_of g)) e)

-- The place of a spoiler in the negative list, after the positive list, which ends at p.
pub place-negative : (r : Rule) → length r.entries ≡ document.entries → (f : rust.Option Spoiler) (i : ℕ) (a : Atom)
    → f ≡ Some (Negative i a) → (p : ℕ) → p ≡ min r.positives document.entries
    → p + i + 1 ≡ place_over (rule_of r) (spoiler_of f)
place-negative r long f i a g p e =
    let n : length (rule_of r).positives ≡ p = simp (length-map, length-take) (omega arith) in
    let m : p + i + 1 ≡ suc (length (rule_of r).positives + i) = omega arith in
    m ∙ sym (ap (λ h. place_over (rule_of r) (spoiler_of h)) g)

-- Nothing comes in where the slot gives nothing.
given_none : (M : AtomSet) (d : ℕ → ℕ) (o : Option theory.Rule) (before : List Bool)
    → ((a : ℕ) → passes (λ r. eqb r.head a && gives? M d r) o ≡ false) → Given M d o before before
given_none M d o before n = record { long = refl; each = λ a l. sym (ap (λ b. b || member before a) (n a)) }

and-false : (b : Bool) → (b && false) ≡ false
and-false true = refl
and-false false = refl

module _ (M : AtomSet) (d : ℕ → ℕ) (r : Rule) (before : List Bool) where
  -- a slot with no unmuted rule
  pub due-idle : (r.state ≡ 1 → ⊥) → DueIn M d (active_in r) before before (record { level = 0; depth = 0; spoiler = 0 })
  due-idle n =
      let e = active-none r n in
      record {
        level = sym (ap (valid_level M d) e);
        depth = sym (ap (depth_due M d (member before)) e);
        spoiler = sym (ap (place_kept M) e);
        given = given_none M d (active_in r) before
            (λ a. ap (passes (λ q. eqb q.head a && gives? M d q)) e);
      }

  module _ (one : r.state ≡ 1) where
    abbrev q : theory.Rule
    q = rule_of r

    here : active_in r ≡ some q
    here = active-some r one

    -- an unmuted rule that an entry spoils
    pub due-spoilt : (at : ℕ) → at ≡ place_over q (spoiler M q) → (at ≡ 0 → ⊥)
        → DueIn M d (active_in r) before before (record { level = 0; depth = 0; spoiler = at })
    due-spoilt at e n =
        let v : valid M q ≡ false = placed-invalid M q (λ z. n (e ∙ z)) in
        let g : gives? M d q ≡ false = ap (λ b. b && eqb (level d q) (d q.head)) v in
        record {
          level = sym (ap (valid_level M d) here ∙ ap (λ b. cond b (level d q) zero) v);
          depth = sym (ap (depth_due M d (member before)) here
              ∙ ap (λ b. cond (b && not (member before q.head)) (d q.head) zero) g);
          spoiler = e ∙ sym (ap (place_kept M) here);
          given = given_none M d (active_in r) before
              (λ a. ap (passes (λ p. eqb p.head a && gives? M d p)) here
              ∙ ap (λ b. eqb q.head a && b) g ∙ and-false (eqb q.head a));
        }

    -- an unmuted rule that is valid
    module _ (at : ℕ) (placed : at ≡ place_over q (spoiler M q)) (z : at ≡ 0) (n : ℕ) (deep : n ≡ level d q)
        (after : List Bool) (k : ℕ) (D : DepthDue d r.head.0 n before after k) where
      good : valid M q ≡ true
      good = (place-valid M q).0 (sym placed ∙ z)

      abbrev g : Bool
      g = gives_at d r.head.0 n

      gives : gives? M d q ≡ g
      gives = ap₂ (λ b m. b && eqb m (d q.head)) good (sym deep)

      fresh : (b : Bool) → after ≡ cond b (set before r.head.0 true) before → length after ≡ length before
      fresh true e = ap length e ∙ length-set before r.head.0 true
      fresh false e = ap length e

      each : (a : ℕ) → a < length before → member after a ≡ ((eqb q.head a && g) || member before a)
      each a l = go g (member before q.head) refl refl D.given
        where
          h : ℕ
          h = q.head

          go : (b c : Bool) → g ≡ b → member before q.head ≡ c
              → after ≡ cond (g && not (member before q.head)) (set before q.head true) before
              → member after a ≡ ((eqb q.head a && g) || member before a)
          go false c e f i =
              ap (λ xs. member xs a) (i ∙ ap (λ b. cond (b && not (member before q.head)) (set before q.head true)
              before) e)
              ∙ sym (ap (λ b. (eqb q.head a && b) || member before a) e
              ∙ ap (λ b. b || member before a) (and-false (eqb q.head a)))
          go true true e f i =
              ap (λ xs. member xs a) (i ∙ ap₂ (λ b c. cond (b && not c) (set before q.head true) before) e f)
              ∙ sym (ap (λ b. (eqb q.head a && b) || member before a) e ∙ known (eqb q.head a) refl)
            where
              known : (b : Bool) → eqb q.head a ≡ b → ((b && true) || member before a) ≡ member before a
              known true t = sym f ∙ ap (member before) (eqb-eq q.head a t)
              known false t = refl
          go true false e f i =
              ap (λ xs. member xs a) (i ∙ ap₂ (λ b c. cond (b && not c) (set before q.head true) before) e f)
              ∙ new (eqb q.head a) refl
              ∙ sym (ap (λ b. (eqb q.head a && b) || member before a) e)
            where
              new : (b : Bool) → eqb q.head a ≡ b
                  → member (set before q.head true) a ≡ ((b && true) || member before a)
              new true t =
                  ap (member (set before q.head true)) (sym (eqb-eq q.head a t))
                  ∙ mark-in before q.head (omega (arith, eqb-eq q.head a t))
              new false t = mark-other before q.head a (λ s. clash (eqb_of q.head a (sym s)) t)

      pub due-valid : DueIn M d (active_in r) before after (record { level = n; depth = k; spoiler = 0 })
      due-valid = record {
        level = deep ∙ sym (ap (valid_level M d) here ∙ ap (λ b. cond b (level d q) zero) good);
        depth = D.depth ∙ sym (ap (depth_due M d (member before)) here
            ∙ ap (λ b. cond (b && not (member before q.head)) (d q.head) zero) gives);
        spoiler = sym z ∙ placed ∙ sym (ap (place_kept M) here);
        given = record {
          long = fresh (g && not (member before r.head.0)) D.given;
          each = λ a l. each a l ∙ sym (ap (λ o. passes (λ p. eqb p.head a && gives? M d p) o || member before a) here
              ∙ ap (λ b. (eqb q.head a && b) || member before a) gives);
        };
      }
