-- Labels: as the code has them, and read off a table. Assumes nothing.
use Rattle.std.specs.Prelude.{ℕ, List, get_or}
use Rattle.theory.specs.Labels.{absent, out, in_at}
use Rattle.theory.specs.Labels as theory
use Rattle.theory.specs.Slots.{label_by}
use Rattle.table.specs.declared.Label.{Label}
use Rattle.table.specs.declared.Label.TheVariants.{Absent, Out, In}
use Rattle.table.specs.Rules.{book_of}
use Rattle.table.specs.Words.{rules_of, depth_at}

abbrev pub label_of : Label → theory.Label
label_of Absent = absent
label_of Out = out
label_of (In depth slot) = in_at depth slot.0

-- The label of an atom that does not occur, which is also what an array of labels reads as past its end.
abbrev pub absent_label : Label
absent_label = Absent

-- The label of an atom in an array of labels: absent past the end.
abbrev pub label_listed : List Label → ℕ → theory.Label
label_listed labels a = label_of (get_or labels a absent_label)

-- The label of an atom read off a table's numbers: in, if a slot with this head keeps a depth; else out if the atom
-- occurs, else absent.
abbrev pub label_at : List ℕ → ℕ → theory.Label
label_at table = label_by (book_of (rules_of table)) (depth_at table)
