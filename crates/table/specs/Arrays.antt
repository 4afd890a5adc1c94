-- What the slots keep of each atom, in arrays. Assumes nothing.
use Rattle.std.specs.Prelude.{ℕ, ◌<◌, ◌≡◌, Bool, true, List, length, set}
use Rattle.std.proofs.Math.Option.{Option, none, some}
use Rattle.theory.specs.Rules.{Rule}
use Rattle.theory.specs.Questions.{is_in_label}
use Rattle.theory.specs.Certificate.{depth_in, slot_in}
use Rattle.theory.specs.Limits.{document}
use Rattle.table.specs.declared.arrays.LabelArrays.{LabelArrays}
use Rattle.table.specs.Sets.{member, number}
use Rattle.table.specs.Labels.{label_at}

-- Of each atom, by the label read off the table: is it in, its depth, its supporting slot.
pub record ArraysOf (table : List ℕ) (k : LabelArrays) : Type 0 where
  pub many : length k.flags ≡ document.atoms
  pub deep : length k.depths ≡ document.atoms
  pub wide : length k.slots ≡ document.atoms
  pub flags : (a : ℕ) → a < document.atoms → member k.flags a ≡ is_in_label (label_at table a)
  pub depths : (a : ℕ) → a < document.atoms → number k.depths a ≡ depth_in (label_at table a)
  pub slots : (a : ℕ) → a < document.atoms → number k.slots a ≡ slot_in (label_at table a)

-- One slot was read (private): if it holds a rule, o, and keeps a depth, the head is in, with this depth and slot.
pub record Kept (head depth slot : ℕ) (f : List Bool) (d s : List ℕ) (g : List Bool) (e t : List ℕ) : Type 0 where
  pub flags : g ≡ set f head true
  pub depths : e ≡ set d head depth
  pub slots : t ≡ set s head slot

pub record Noted
    (o : Option Rule) (head depth slot : ℕ) (f : List Bool) (d s : List ℕ) (g : List Bool) (e t : List ℕ) : Type 0 where
  pub free : o ≡ none → (g ≡ f) × (e ≡ d) × (t ≡ s)
  pub idle : depth ≡ 0 → (g ≡ f) × (e ≡ d) × (t ≡ s)
  pub kept : (r : Rule) → o ≡ some r → (depth ≡ 0 → ⊥) → Kept head depth slot f d s g e t
