-- The labels put together from what was found of each atom are those that the table says. Assumes nothing.
use Prim.Native.Nat.{ℕ, ◌+◌, ◌≤◌, ◌<◌}
use native.Mathlib.Omega.{arith}
use mathlib.Core.Path.{◌≡◌, refl, ◌∙◌, ap}
use mathlib.Core.Logic.{⊎_elim}
use mathlib.Core.Bool.{Bool, true, false}
use mathlib.Core.List.{List}
use mathlib.Core.Option.{Option, none, some}
use lib.ListN.{length, get_or, set}
use lib.Seq.{get_or-set_same, get_or-set_other}
use Rattle.theory.specs.Questions.{is_in_label}
use Rattle.theory.specs.Certificate.{depth_in, slot_in}
use Rattle.theory.specs.Slots.{kept_from, label_from, occurs?}
use Rattle.theory.specs.Models.{AtomSet}
use Rattle.theory.specs.Limits.{document}
use Rattle.theory.proofs.Lists.{le-or-lt, same_test}
use Rattle.theory.proofs.Rules.{occurs-at, occurs-of}
use Rattle.table.specs.declared.Label.{Label}
use Rattle.table.specs.declared.Label.TheVariants.{Out, In}
use Rattle.table.specs.declared.arrays.LabelArrays.{LabelArrays}
use Rattle.table.specs.Sets.{member, number}
use Rattle.table.specs.Rules.{program_of}
use Rattle.table.specs.Words.{rules_of, depth_at}
use Rattle.table.specs.Labels.{label_at, label_listed, label_of, absent_label}
use Rattle.table.specs.Arrays.{ArraysOf}
use Rattle.occurring.specs.Occurrence.{OccurringIn}
use Rattle.reading.specs.Assembling.{label_for, Assembled}

-- The label of one atom, by whether it is in and whether it occurs.
module _ (i o : Bool) (d s : ℕ) where
  pub label-for-in : i ≡ true → In d (record { 0 = s }) ≡ label_for i o d s
  label-for-in t = cc

  pub label-for-out : i ≡ false → o ≡ true → Out ≡ label_for i o d s
  label-for-out t u = cc

  pub label-for-absent : i ≡ false → o ≡ false → absent_label ≡ label_for i o d s
  label-for-absent t u = cc

-- The label is that of what its parts are.
pub label-alike :
    {i i' o o' : Bool} {d d' s s' : ℕ} → i ≡ i' → o ≡ o' → d ≡ d' → s ≡ s' → label_for i o d s ≡ label_for i' o' d' s'
label-alike a b c e = rw (a, b, c, e) refl

-- One more atom's label is put.
pub one_more :
    (f : ℕ → Label) (labels : List Label) (a : ℕ) → a < length labels
    → ((k : ℕ) → k < a → get_or labels k absent_label ≡ f k)
    → (l : Label) → l ≡ f a → (k : ℕ) → k < a + 1 → get_or (set labels a l) k absent_label ≡ f k
one_more f labels a h below l e k j = ⊎_elim
    (λ (m : a ≤ k). (let q : k ≡ a = omega arith in
    rw q (get_or-set_same labels a l absent_label h ∙ e)))
    (λ (m : k < a). get_or-set_other labels a k l absent_label (λ q. omega arith) ∙ below k m)
    (le-or-lt a k)

-- The label made of what a label says is that label.
pub label-again :
    (o : Option ℕ) (depth : ℕ → ℕ) (b : Bool)
    → label_of (label_for (is_in_label (label_from o depth b)) b (depth_in (label_from o depth b))
    (slot_in (label_from o depth b))) ≡ label_from o depth b
label-again none depth true = refl
label-again none depth false = refl
label-again (some s) depth b = refl

-- The labels put together from the arrays and from occurrence are those that the table says.
pub all-labels :
    (table : List ℕ) (k : LabelArrays) (O : AtomSet) (labels : List Label) → ArraysOf table k
    → OccurringIn (program_of (rules_of table)) O
    → Assembled (member k.flags) O (number k.depths) (number k.slots) labels
    → (a : ℕ) → a < document.atoms → label_listed labels a ≡ label_at table a
all-labels table k O labels K o A a l =
    let P = program_of (rules_of table) in
    let there : O a ≡ occurs? P a =
    same_test (O a) (occurs? P a) (λ t. occurs-of P a ((o a).0 t)) (λ t. (o a).1 (occurs-at P a t)) in
    ap label_of (A.each a l ∙ label-alike (K.flags a l) there (K.depths a l) (K.slots a l))
    ∙ label-again (kept_from (depth_at table) a 0 P) (depth_at table) (occurs? P a)
