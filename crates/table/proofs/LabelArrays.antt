-- Laws of what the slots keep of each atom, gathered into arrays by a walk down the slots. Assumes nothing.
use Prim.Native.Nat.{ℕ, zero, suc, ◌≤◌, ◌<◌}
use native.Mathlib.Omega.{arith}
use native.Mathlib.Decide.{ℕ_discrete}
use mathlib.Core.Path.{◌≡◌, refl, sym, ◌∙◌, ap, ap₂, fun_ext}
use mathlib.Core.Bool.{Bool, true, false, not, ◌&&◌, cond}
use mathlib.Core.Logic.{⊎_elim}
use mathlib.Core.List.Memᴰ
use mathlib.Core.List.{List}
use mathlib.Core.Option.{Option, none, some}
use lib.Dec.{eqb}
use lib.ListN.{length, get_or, set, drop, length-set, replicate, length-replicate, drop_of_length-le, get_or-eq_default}
use lib.Seq.{drop-cons}
use Rattle.theory.specs.Rules.{Bounded, Program, all}
use Rattle.theory.specs.Rules as theory
use Rattle.theory.specs.Limits.{document}
use Rattle.theory.specs.Labels.{Label, absent, out}
use Rattle.theory.specs.Questions.{is_in_label}
use Rattle.theory.specs.Certificate.{depth_in, slot_in, kept_in, kept_depth, kept_slot}
use Rattle.theory.specs.Slots.{keeps?, kept_from, label_from, occurs?}
use Rattle.theory.proofs.Lists.{eqb_of, eqb-not, le-or-lt}
use Rattle.table.specs.declared.Rule.{Rule}
use Rattle.table.specs.declared.arrays.LabelArrays.{LabelArrays}
use Rattle.table.specs.Sets.{member, number}
use Rattle.table.specs.Rules.{slot_of, program_of, past_rule}
use Rattle.table.specs.Words.{rules_of, depth_at}
use Rattle.theory.proofs.Slots.{found-kept}
use Rattle.table.specs.Labels.{label_at}
use Rattle.table.specs.Arrays.{ArraysOf, Noted}
use Rattle.table.proofs.Members.{all_alike, mark-in, mark-other, number_same, number-other}
use Rattle.table.proofs.Programs.{program-at, program-length, slot_rule}

-- What a slot found tells of its atom.
abbrev told_flag : Option ℕ → Bool
told_flag none = false
told_flag (some s) = true

abbrev told_depth : (ℕ → ℕ) → Option ℕ → ℕ
told_depth depth none = zero
told_depth depth (some s) = depth s

abbrev told_slot : Option ℕ → ℕ
told_slot none = zero
told_slot (some s) = s

-- The lowest slot from k on that keeps a depth for an atom.
abbrev from_on : List Rule → (ℕ → ℕ) → ℕ → ℕ → Option ℕ
from_on rows depth a k = kept_from depth a k (drop k (program_of rows))

-- The arrays have what the slots from k on keep.
pub record Read (rows : List Rule) (depth : ℕ → ℕ) (k : ℕ) (f : List Bool) (d s : List ℕ) : Type 0 where
  pub many : length f ≡ document.atoms
  pub deep : length d ≡ document.atoms
  pub wide : length s ≡ document.atoms
  pub flags : (a : ℕ) → a < document.atoms → member f a ≡ told_flag (from_on rows depth a k)
  pub depths : (a : ℕ) → a < document.atoms → number d a ≡ told_depth depth (from_on rows depth a k)
  pub slots : (a : ℕ) → a < document.atoms → number s a ≡ told_slot (from_on rows depth a k)

module _ (rows : List Rule) (depth : ℕ → ℕ) where
  past_end : (a k : ℕ) → length rows ≤ k → from_on rows depth a k ≡ none
  unfolding kept_from
  past_end a k l =
      ap (kept_from depth a k) (drop_of_length-le (program_of rows) {i = k} (omega (arith, program-length rows)))

  -- Past the last slot nothing is kept.
  pub read_none :
      (k : ℕ) → length rows ≤ k
      → Read rows depth k (replicate document.atoms false) (replicate document.atoms 0)
      (replicate document.atoms 0)
  read_none k l = record {
    many = length-replicate document.atoms false;
    deep = length-replicate {A = ℕ} document.atoms 0;
    wide = length-replicate {A = ℕ} document.atoms 0;
    flags = λ a m. all_alike document.atoms a false ∙ sym (ap told_flag (past_end a k l));
    depths = λ a m. all_alike {A = ℕ} document.atoms a 0 ∙ sym (ap (told_depth depth) (past_end a k l));
    slots = λ a m. all_alike {A = ℕ} document.atoms a 0 ∙ sym (ap told_slot (past_end a k l));
  }

  -- One slot down, at slot i, which has the rule r and keeps x.
  module _ (i k : ℕ) (l : i < length rows) (above : k ≡ suc i) (r : Rule) (read : r ≡ get_or rows i past_rule) (x : ℕ)
      (kept : x ≡ depth i) where
    one_down : (a : ℕ) → from_on rows depth a i
        ≡ elim (keeps? x a (slot_of r)) [ true ↦ some i | false ↦ from_on rows depth a k ]
    unfolding kept_from
    one_down a =
        ap (kept_from depth a i) (drop-cons (program_of rows) i none (omega (arith, program-length rows)))
        ∙ ap (λ (b : Bool). elim b [ true ↦ some i | false ↦ from_on rows depth a (suc i) ])
        (ap₂ (λ y o. keeps? y a o) (sym kept) (program-at rows i ∙ ap slot_of (sym read)))
        ∙ ap (λ (j : ℕ). elim (keeps? x a (slot_of r)) [ true ↦ some i | false ↦ from_on rows depth a j ]) (sym above)

    down-other : (a : ℕ) → keeps? x a (slot_of r) ≡ false → from_on rows depth a i ≡ from_on rows depth a k
    down-other a e = one_down a ∙ ap (λ (b : Bool). elim b [ true ↦ some i | false ↦ from_on rows depth a k ]) e

    down-here : (a : ℕ) → keeps? x a (slot_of r) ≡ true → from_on rows depth a i ≡ some i
    down-here a e = one_down a ∙ ap (λ (b : Bool). elim b [ true ↦ some i | false ↦ from_on rows depth a k ]) e

    module _ (f : List Bool) (d s : List ℕ) (R : Read rows depth k f d s) where
      -- nothing is kept here
      idle-down : ((a : ℕ) → keeps? x a (slot_of r) ≡ false) → Read rows depth i f d s
      idle-down n = record {
        many = R.many;
        deep = R.deep;
        wide = R.wide;
        flags = λ a m. R.flags a m ∙ sym (ap told_flag (down-other a (n a)));
        depths = λ a m. R.depths a m ∙ sym (ap (told_depth depth) (down-other a (n a)));
        slots = λ a m. R.slots a m ∙ sym (ap told_slot (down-other a (n a)));
      }

      -- a depth is kept for the head of a rule
      module _ (q : theory.Rule) (holds : slot_of r ≡ some q) (deep : x ≡ 0 → ⊥) where
        abbrev h : ℕ
        h = r.head.0

        keeps-is : (a : ℕ) → keeps? x a (slot_of r) ≡ eqb h a
        keeps-is a =
            ap (keeps? x a) holds
            ∙ ap₂ (λ b c. b && not c) (ap (λ (p : theory.Rule). eqb p.head a) (sym (slot_rule r q holds)))
            (eqb-not x 0 deep)
            ∙ and-true (eqb h a)
          where
            and-true : (b : Bool) → (b && true) ≡ b
            and-true true = refl
            and-true false = refl

        here : (a : ℕ) → a ≡ h → from_on rows depth a i ≡ some i
        here a e = down-here a (keeps-is a ∙ eqb_of h a (sym e))

        there : (a : ℕ) → (a ≡ h → ⊥) → from_on rows depth a i ≡ from_on rows depth a k
        there a n = down-other a (keeps-is a ∙ eqb-not h a (λ e. n (sym e)))

        kept-down : Read rows depth i (set f h true) (set d h x) (set s h i)
        kept-down = record {
          many = length-set f h true ∙ R.many;
          deep = length-set d h x ∙ R.deep;
          wide = length-set s h i ∙ R.wide;
          flags = λ a m. elim (ℕ_discrete a h) [
            | yes e ↦ ap (member (set f h true)) e ∙ mark-in f h (omega (arith, R.many))
                ∙ sym (ap told_flag (here a e))
            | no n ↦ mark-other f h a n ∙ R.flags a m ∙ sym (ap told_flag (there a n))
          ];
          depths = λ a m. elim (ℕ_discrete a h) [
            | yes e ↦ ap (number (set d h x)) e ∙ number_same d h x (omega (arith, R.deep)) ∙ kept
                ∙ sym (ap (told_depth depth) (here a e))
            | no n ↦ number-other d h x a n ∙ R.depths a m ∙ sym (ap (told_depth depth) (there a n))
          ];
          slots = λ a m. elim (ℕ_discrete a h) [
            | yes e ↦ ap (number (set s h i)) e ∙ number_same s h i (omega (arith, R.wide))
                ∙ sym (ap told_slot (here a e))
            | no n ↦ number-other s h i a n ∙ R.slots a m ∙ sym (ap told_slot (there a n))
          ];
        }

      pub read_down : (g : List Bool) (e t : List ℕ) → Noted (slot_of r) r.head.0 x i f d s g e t → Read rows depth i g e t
      read_down g e t N = go (slot_of r) refl
        where
          as_it_was : (g ≡ f) × (e ≡ d) × (t ≡ s) → ((a : ℕ) → keeps? x a (slot_of r) ≡ false) → Read rows depth i g e t
          as_it_was w n = rw (w.0, w.1, w.2) (idle-down n)

          go : (o : Option theory.Rule) → slot_of r ≡ o → Read rows depth i g e t
          go none h = as_it_was (N.free h) (λ a. ap (keeps? x a) h)
          go (some q) h = elim (ℕ_discrete x 0) [
            | yes z ↦ as_it_was (N.idle z) (λ a. ap (keeps? x a) h ∙ ap (λ c. eqb q.head a && not c) (eqb_of x 0 z)
                ∙ and-false (eqb q.head a))
            | no n ↦ (let K = N.kept q h n in rw (K.flags, K.depths, K.slots) (kept-down q h n))
          ]
            where
              and-false : (b : Bool) → (b && false) ≡ false
              and-false true = refl
              and-false false = refl

-- The slots from 0 on are all of them: the arrays have what the labels say.
label-flag : (o : Option ℕ) (depth : ℕ → ℕ) (b : Bool) → told_flag o ≡ is_in_label (label_from o depth b)
label-flag none depth true = refl
label-flag none depth false = refl
label-flag (some s) depth b = refl

label-depth : (o : Option ℕ) (depth : ℕ → ℕ) (b : Bool) → told_depth depth o ≡ depth_in (label_from o depth b)
label-depth none depth true = refl
label-depth none depth false = refl
label-depth (some s) depth b = refl

label-slot : (o : Option ℕ) (depth : ℕ → ℕ) (b : Bool) → told_slot o ≡ slot_in (label_from o depth b)
label-slot none depth true = refl
label-slot none depth false = refl
label-slot (some s) depth b = refl

pub read_all : (table : List ℕ) (k : ℕ) (c : LabelArrays) → k ≡ 0
    → Read (rules_of table) (depth_at table) k c.flags c.depths c.slots → ArraysOf table c
read_all table k c z R =
    let S : Read (rules_of table) (depth_at table) 0 c.flags c.depths c.slots = rw (sym z) R in
    record {
      many = S.many;
      deep = S.deep;
      wide = S.wide;
      flags = λ a l. S.flags a l ∙ label-flag (kept_from (depth_at table) a 0 (program_of (rules_of table))) _ _;
      depths = λ a l. S.depths a l ∙ label-depth (kept_from (depth_at table) a 0 (program_of (rules_of table))) _ _;
      slots = λ a l. S.slots a l ∙ label-slot (kept_from (depth_at table) a 0 (program_of (rules_of table))) _ _;
    }

-- Where every atom is below the limit, the arrays are what is kept, of every atom.
module _ (table : List ℕ) (c : LabelArrays) (A : ArraysOf table c)
    (below : Bounded (program_of (rules_of table)) document.atoms) where
  none_above : (a : ℕ) → document.atoms ≤ a → kept_from (depth_at table) a 0 (program_of (rules_of table)) ≡ none
  none_above a l = go (kept_from (depth_at table) a 0 (program_of (rules_of table))) refl
    where
      go : (o : Option ℕ) → kept_from (depth_at table) a 0 (program_of (rules_of table)) ≡ o → o ≡ none
      go none e = refl
      go (some s) e =
          let K = found-kept (program_of (rules_of table)) (depth_at table) a s e in
          absurd (omega (arith, below s K.rule K.held K.rule.head (Memᴰ.head refl), K.heads))

  label-above : (a : ℕ) → document.atoms ≤ a → (b : Bool)
      → label_from (kept_from (depth_at table) a 0 (program_of (rules_of table))) (depth_at table) b ≡ cond b out absent
  label-above a l b = ap (λ (o : Option ℕ). label_from o (depth_at table) b) (none_above a l)

  -- An atom past the limit is not in, has no depth and no slot.
  above : {A : Type 0} (f : Label → A) (z : A) → f out ≡ z → f absent ≡ z → (a : ℕ) → document.atoms ≤ a
      → f (label_at table a) ≡ z
  above f z o n a l = go (occurs? (program_of (rules_of table)) a)
    where
      go : (b : Bool)
          → f (label_from (kept_from (depth_at table) a 0 (program_of (rules_of table))) (depth_at table) b) ≡ z
      go true = ap f (label-above a l true) ∙ o
      go false = ap f (label-above a l false) ∙ n

  pub flags-are : member c.flags ≡ kept_in (label_at table)
  flags-are = fun_ext (λ a. ⊎_elim
      (λ (l : document.atoms ≤ a). get_or-eq_default c.flags false (omega (arith, A.many))
      ∙ sym (above is_in_label false refl refl a l))
      (λ (l : a < document.atoms). A.flags a l)
      (le-or-lt document.atoms a))

  pub depths-are : number c.depths ≡ kept_depth (label_at table)
  depths-are = fun_ext (λ a. ⊎_elim
      (λ (l : document.atoms ≤ a). get_or-eq_default c.depths 0 (omega (arith, A.deep))
      ∙ sym (above depth_in 0 refl refl a l))
      (λ (l : a < document.atoms). A.depths a l)
      (le-or-lt document.atoms a))

  pub slots-are : number c.slots ≡ kept_slot (label_at table)
  slots-are = fun_ext (λ a. ⊎_elim
      (λ (l : document.atoms ≤ a). get_or-eq_default c.slots 0 (omega (arith, A.wide))
      ∙ sym (above slot_in 0 refl refl a l))
      (λ (l : a < document.atoms). A.slots a l)
      (le-or-lt document.atoms a))
