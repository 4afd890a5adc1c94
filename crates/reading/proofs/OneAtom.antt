-- The label of one atom: does it occur, and what is told of it by the walks that seek it. Assumes nothing.
use Prim.Native.Nat.{ℕ, suc, ◌+◌, ◌≤◌, ◌<◌}
use native.Mathlib.Omega.{arith}
use native.Mathlib.Numerals.{add-one}
use mathlib.Core.Path.{◌≡◌, refl, sym, ◌∙◌, ap, ap₂}
use mathlib.Core.Bool.{Bool, true, false, ◌||◌, cond}
use mathlib.Core.List.{List, ◌∷◌}
use mathlib.Core.Option.{Option, none, some}
use lib.Dec.{eqb}
use lib.ListN.{length, get_or, drop, drop_of_length-le}
use lib.Seq.{drop-cons}
use Rattle.theory.specs.Lists.{any}
use Rattle.theory.specs.Rules.{Program, entries, passes}
use Rattle.theory.specs.Rules as theory
use Rattle.theory.specs.Labels.{out, absent, in_at}
use Rattle.theory.specs.Slots.{kept_from, label_from, occurs?}
use Rattle.theory.proofs.Lists.{eqb-eq, eqb_of, same_test}
use Rattle.table.specs.declared.Label.{Label}
use Rattle.table.specs.declared.Rule.{Rule}
use Rattle.table.specs.Rules.{slot_of, program_of, past_rule}
use Rattle.table.specs.Words.{rules_of, depth_at}
use Rattle.table.specs.Labels.{label_at, label_of}
use Rattle.table.proofs.Programs.{program-at, program-length}
use Rattle.reading.specs.Assembling.{label_for}

-- The atom occurs in a rule as its head, or as an entry.
module _ (a : ℕ) where
  abbrev pub heads : theory.Rule → Bool
  heads q = eqb q.head a

  abbrev pub uses : theory.Rule → Bool
  uses q = any (eqb a) (entries q)

  abbrev pub has : theory.Rule → Bool
  has q = any (eqb a) (q.head ∷ entries q)

  split : (o : Option theory.Rule) → passes has o ≡ (passes heads o || passes uses o)
  unfolding any
  split none = refl
  split (some q) =
      ap (λ b. b || any (eqb a) (entries q))
      (same_test (eqb a q.head) (eqb q.head a) (λ t. eqb_of q.head a (sym (eqb-eq a q.head t)))
      (λ t. eqb_of a q.head (sym (eqb-eq q.head a t))))

  pub by-head : (o : Option theory.Rule) (b : Bool) → b ≡ passes heads o → b ≡ true → true ≡ passes has o
  by-head o b e t = sym (split o ∙ ap (λ c. c || passes uses o) (sym e ∙ t))

  pub by-entry :
      (o : Option theory.Rule) (b c : Bool) → b ≡ passes heads o → b ≡ false → c ≡ passes uses o → c ≡ passes has o
  by-entry o b c e t u = u ∙ sym (split o ∙ ap (λ c. c || passes uses o) (sym e ∙ t))

-- The walk: at slot i, what is left answers for all.
module _ (rows : List Rule) (a i : ℕ) where
  abbrev P : Program
  P = program_of rows

  module _ (l : i < length rows) (r : Rule) (read : r ≡ get_or rows i past_rule) (b : Bool)
      (told : b ≡ passes (has a) (slot_of r)) where
    one_more : occurs? (drop i P) a ≡ (b || occurs? (drop (suc i) P) a)
    unfolding occurs? any
    one_more =
        ap (λ (Q : Program). occurs? Q a) (drop-cons P i none (omega (arith, program-length rows)))
        ∙ ap (λ (c : Bool). c || occurs? (drop (suc i) P) a)
        (ap (passes (has a)) (program-at rows i ∙ ap slot_of (sym read)) ∙ sym told)

    pub occurs-hit : b ≡ true → occurs? (drop i P) a ≡ true
    occurs-hit t = one_more ∙ ap (λ c. c || occurs? (drop (suc i) P) a) t

    pub occurs-next : b ≡ false → occurs? (drop i P) a ≡ occurs? (drop (i + 1) P) a
    occurs-next t =
        one_more ∙ ap (λ c. c || occurs? (drop (suc i) P) a) t ∙ ap (λ k. occurs? (drop k P) a) (sym (add-one i))

  pub occurs-over : length rows ≤ i → occurs? (drop i P) a ≡ false
  unfolding occurs? any
  occurs-over l = ap (λ (Q : Program). occurs? Q a) (drop_of_length-le P {i = i} (omega (arith, program-length rows)))

-- What is told of the atom.
module _ (table : List ℕ) (a : ℕ) where
  abbrev kept : Option ℕ
  kept = kept_from (depth_at table) a 0 (program_of (rules_of table))

  pub label_kept :
      (i d : ℕ) (r : Label) → kept ≡ some i → d ≡ depth_at table i → r ≡ label_for true true d i
      → label_of r ≡ label_at table a
  label_kept i d r h e t =
      ap label_of t ∙ ap (λ k. in_at k i) e
      ∙ sym (ap (λ (o : Option ℕ). label_from o (depth_at table) (occurs? (program_of (rules_of table)) a)) h)

  pub label-not :
      (b : Bool) (r : Label) → kept ≡ none → b ≡ occurs? (program_of (rules_of table)) a → r ≡ label_for false b 0 0
      → label_of r ≡ label_at table a
  label-not b r h e t =
      ap label_of t ∙ told b ∙ ap₂ (λ (o : Option ℕ) (c : Bool). label_from o (depth_at table) c) (sym h) e
    where
      told : (b : Bool) → label_of (label_for false b 0 0) ≡ cond b out absent
      told true = refl
      told false = refl
