-- A walk over the slots that seeks the one that keeps a depth for an atom. Assumes nothing.
use Prim.Native.Nat.{ℕ, suc, ◌+◌, ◌≤◌, ◌<◌}
use native.Mathlib.Omega.{arith}
use native.Mathlib.Numerals.{add-one}
use mathlib.Core.Path.{◌≡◌, sym, ◌∙◌, ap, ap₂}
use mathlib.Core.Bool.{Bool, true, false, not, ◌&&◌}
use mathlib.Core.List.{List}
use mathlib.Core.Option.{Option, none, some}
use lib.Dec.{eqb}
use lib.ListN.{length, get_or, drop, drop_of_length-le}
use lib.Seq.{drop-cons}
use Rattle.theory.specs.Rules.{Program}
use Rattle.theory.proofs.Lists.{eqb_of, eqb-not}
use Rattle.table.specs.declared.Rule.{Rule}
use Rattle.table.specs.Rules.{slot_of, program_of, past_rule}
use Rattle.table.proofs.Programs.{program-at, program-length, slot-free, slot_held}
use Rattle.theory.specs.Slots.{keeps?, kept_from}

-- One slot.
module _ (r : Rule) (d a : ℕ) where
  pub free-keeps : r.state ≡ 0 → false ≡ keeps? d a (slot_of r)
  free-keeps e = sym (ap (keeps? d a) (slot-free r e))

  held_keeps : (r.state ≡ 0 → ⊥) → keeps? d a (slot_of r) ≡ (eqb r.head.0 a && not (eqb d 0))
  held_keeps n = ap (keeps? d a) (slot_held r n)

  pub other-keeps : (r.state ≡ 0 → ⊥) → (r.head.0 ≡ a → ⊥) → false ≡ keeps? d a (slot_of r)
  other-keeps n m = sym (held_keeps n ∙ ap (λ b. b && not (eqb d 0)) (eqb-not _ _ m))

  pub this-keeps : (r.state ≡ 0 → ⊥) → r.head.0 ≡ a → not (eqb d 0) ≡ keeps? d a (slot_of r)
  this-keeps n m = sym (held_keeps n ∙ ap (λ b. b && not (eqb d 0)) (eqb_of _ _ m))

-- The walk: at slot i, what is left gives the whole.
module _ (rows : List Rule) (depth : ℕ → ℕ) (a i : ℕ) where
  abbrev P : Program
  P = program_of rows

  abbrev left : ℕ → Option ℕ
  left k = kept_from depth a k (drop k P)

  module _ (l : i < length rows) (r : Rule) (read : r ≡ get_or rows i past_rule) (d : ℕ) (kept : d ≡ depth i) where
    one_more : left i ≡ elim (keeps? d a (slot_of r)) [ true ↦ some i | false ↦ left (suc i) ]
    unfolding kept_from
    one_more =
        ap (kept_from depth a i) (drop-cons P i none (omega (arith, program-length rows)))
        ∙ ap (λ (b : Bool). elim b [ true ↦ some i | false ↦ left (suc i) ])
        (ap₂ (λ x o. keeps? x a o) (sym kept) (program-at rows i ∙ ap slot_of (sym read)))

    pub seek_hit : (t : Bool) → t ≡ keeps? d a (slot_of r) → t ≡ true → left i ≡ some i
    seek_hit t e u =
        one_more ∙ ap (λ (b : Bool). elim b [ true ↦ some i | false ↦ left (suc i) ]) (sym e ∙ u)

    pub seek-next : (t : Bool) → t ≡ keeps? d a (slot_of r) → t ≡ false → left i ≡ left (i + 1)
    seek-next t e u =
        one_more ∙ ap (λ (b : Bool). elim b [ true ↦ some i | false ↦ left (suc i) ]) (sym e ∙ u)
        ∙ ap left (sym (add-one i))

  pub seek-over : length rows ≤ i → left i ≡ none
  unfolding kept_from
  seek-over l = ap (kept_from depth a i) (drop_of_length-le P {i = i} (omega (arith, program-length rows)))
