-- What the functions of the crate tell each other (private): each atom's label from what was found of it. Assumes
-- nothing.
use Rattle.std.specs.Prelude.{ℕ, ◌<◌, ◌≡◌, Bool, true, false, List, length, get_or}
use Rattle.theory.specs.Models.{AtomSet}
use Rattle.theory.specs.Limits.{document}
use Rattle.table.specs.declared.Label.{Label}
use Rattle.table.specs.declared.Label.TheVariants.{Out, In}
use Rattle.table.specs.Labels.{absent_label}

-- The kept label of an atom that is in, or occurs, or neither.
abbrev pub label_for : Bool → Bool → ℕ → ℕ → Label
label_for true occurs depth slot = In depth (record { 0 = slot })
label_for false true depth slot = Out
label_for false false depth slot = absent_label

-- Each atom's label from what was found of it.
pub record Assembled (M occurs : AtomSet) (depth slot : ℕ → ℕ) (labels : List Label) : Type 0 where
  pub long : length labels ≡ document.atoms
  pub each :
      (a : ℕ) → a < document.atoms → get_or labels a absent_label ≡ label_for (M a) (occurs a) (depth a) (slot a)
