-- The labels of all atoms that occur, as a list of numbers, and how the call ends that writes it. Assumes nothing.
use Rattle.std.specs.Prelude.{ℕ, zero, suc, ◌≡◌, List, [], ◌∷◌, ◌++◌}
use Rattle.theory.specs.Rules.{Pages}
use Rattle.theory.specs.Models.{AtomSet}
use Rattle.theory.specs.Labels.{Label, Labelled, absent, in_at, out}
use Rattle.theory.specs.Limits.{document}
use Rattle.table.specs.declared.Table.{Table}
use Rattle.calls.specs.Answers.{ListAnswer}
use Rattle.calls.specs.Ends.{held, ListEnds}

-- What is told of an atom with this label: the atom, its state (1 out, 2 in), its depth and its supporting slot (0 and
-- 0 if it is out). Of an absent one nothing is told.
abbrev pub label_numbers : ℕ → Label → List ℕ
label_numbers a absent = []
label_numbers a out = a ∷ 1 ∷ 0 ∷ 0 ∷ []
label_numbers a (in_at d s) = a ∷ 2 ∷ d ∷ s ∷ []

-- What f gives of the numbers below n, ascending, one after another.
unfoldable pub up_to : (ℕ → List ℕ) → ℕ → List ℕ
up_to f zero = []
up_to f (suc n) = up_to f n ++ f n

-- The list tells the label of every atom, in the model M.
pub record LabelsListed (B : Pages) (M : AtomSet) (xs : List ℕ) : Type 0 where
  pub label : ℕ → Label
  pub labelled : (a : ℕ) → Labelled B M a (label a)
  pub told : xs ≡ up_to (λ a. label_numbers a (label a)) document.atoms

-- Labels: 15, 11.
abbrev pub LabelsEnd : Table → List ℕ → ListAnswer → List ℕ → Type 0
LabelsEnd t = ListEnds [] (LabelsListed (held t)) t
