-- The lines that are printed of the labels (specification 6.7). Assumes nothing.
use Rattle.std.specs.Prelude.{ℕ, zero, suc, ◌*◌, List, [], ◌++◌}
use Rattle.theory.specs.Limits.{document}
use Rattle.theory.specs.Labels.{Label, absent, out, in_at}
use Rattle.fields.specs.Texts.{bytes, newline}
use Rattle.fields.specs.Fields.{decimal, field}

-- Room for the lines of all labels: that of an atom has at most 32 bytes.
abbrev pub LABELS_ROOM : ℕ
LABELS_ROOM = 32 * document.atoms

-- Atom, `in`, depth, supporting slot; or atom, `out`. An atom that doesn't occur has no line.
unfoldable pub in_line : ℕ → ℕ → List ℕ
in_line depth slot = bytes " in" ++ (field depth ++ (field slot ++ newline))

unfoldable pub label_line : ℕ → Label → List ℕ
label_line a absent = []
label_line a out = decimal a ++ bytes " out\n"
label_line a (in_at depth slot) = decimal a ++ in_line depth slot

-- The lines of the atoms below n, ascending.
unfoldable pub label_lines : (ℕ → Label) → ℕ → List ℕ
label_lines label zero = []
label_lines label (suc n) = label_lines label n ++ label_line n (label n)
