-- The contract of the list of labels determines its result: two results allowed for the same input are equal. Assumes
-- nothing.
use Prim.Native.Nat.{ℕ}
use mathlib.Core.Path.{◌≡◌, refl, sym, ◌∙◌, ap, ap₂}
use mathlib.Core.List.Memᴰ
use mathlib.Core.List.{List, []}
use Rattle.theory.specs.Lists.{every}
use Rattle.theory.specs.Rules.{Occurs, Pages, active, all}
use Rattle.theory.specs.Models.{AtomSet}
use Rattle.theory.specs.Labels.{Label, Labelled, Supporting, in_at, is_absent, is_in, is_out}
use Rattle.theory.specs.Limits.{document}
use Rattle.theory.proofs.Depths.{depth-unique}
use Rattle.theory.proofs.Labels.{supporting-unique}
use Rattle.theory.proofs.Lists.{clash}
use Rattle.theory.proofs.Pages.{active-held}
use Rattle.table.specs.declared.Table.{Table}
use Rattle.calls.specs.Answers.{ListAnswer}
use Rattle.calls.specs.Ends.{held}
use Rattle.calls.proofs.Determined.{list-determined}
use Rattle.label_list.specs.Listed.{label_numbers, LabelsEnd, LabelsListed}
use Rattle.label_list.proofs.Writing.{up_same}

-- In one set of atoms, whatever it is, an atom has one label.
module _ (B : Pages) (M : AtomSet) (a : ℕ) where
  supported-occurs : (s : ℕ) → Supporting (active B) M a s → Occurs (all B) a
  supported-occurs s S =
      let w = S.supports in
      record {
        slot = s;
        rule = w.rule;
        held = active-held B s w.rule w.held;
        there = Memᴰ.head (sym w.heads);
      }

  one_label : (k l : Label) → Labelled B M a k → Labelled B M a l → k ≡ l
  one_label k l (is_absent f) (is_absent g) = refl
  one_label k l (is_absent f) (is_out o n) = absurd (f o)
  one_label k l (is_absent f) (is_in t D S) = absurd (f (supported-occurs _ S))
  one_label k l (is_out o n) (is_absent g) = absurd (g o)
  one_label k l (is_out o n) (is_out p m) = refl
  one_label k l (is_out o n) (is_in t D S) = absurd (clash t n)
  one_label k l (is_in t D S) (is_absent g) = absurd (g (supported-occurs _ S))
  one_label k l (is_in t D S) (is_out p m) = absurd (clash t m)
  one_label k l (is_in t D S) (is_in u E R) =
      ap₂ in_at (depth-unique D E) (supporting-unique (active B) M a _ _ S R)

listed-unique :
    (B : Pages) (M : AtomSet) (xs ys : List ℕ) → LabelsListed B M xs → LabelsListed B M ys → xs ≡ ys
listed-unique B M xs ys X Y =
    X.told
    ∙ up_same (λ a. label_numbers a (X.label a)) (λ a. label_numbers a (Y.label a)) document.atoms
    (λ a l. ap (label_numbers a) (one_label B M a (X.label a) (Y.label a) (X.labelled a) (Y.labelled a)))
    ∙ sym Y.told

pub labels-determined :
    (t : Table) (b : List ℕ) (x y : ListAnswer) (c d : List ℕ) → LabelsEnd t b x c → LabelsEnd t b y d
    → (x ≡ y) × (c ≡ d)
unfolding every
labels-determined t = list-determined [] refl _ (listed-unique (held t)) t
