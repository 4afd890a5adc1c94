-- The lines of a sheet and the calls that they are, read off its bytes alone (specification 6.3 and 6.7). Assumes
-- nothing.
use Rattle.std.specs.Prelude.{ℕ, cond, List, [], ◌∷◌, ◌++◌, eqb}
use Rattle.theory.specs.Book.{add, remove, replace}
use Rattle.table.specs.Questions.{rule_from}
use Rattle.history.specs.Calls.{Call, change}
use Rattle.sheet_lines.specs.Commands as sheet
use Rattle.sheet_lines.specs.Readings.{Line, is_blank, too_long, no_command, is, reading}
use Rattle.fields.specs.Texts.{NEWLINE}

-- The bytes of a sheet are parted at newlines: the lines that a newline ends, and the bytes behind the last newline.
-- `line` has the bytes before these that belong to the first line.
unfoldable pub ended_lines : List ℕ → List ℕ → List (List ℕ)
ended_lines line [] = []
ended_lines line (b ∷ bs) = cond (eqb b NEWLINE) (line ∷ ended_lines [] bs) (ended_lines (line ++ (b ∷ [])) bs)

unfoldable pub behind_newlines : List ℕ → List ℕ → List ℕ
behind_newlines line [] = line
behind_newlines line (b ∷ bs) = cond (eqb b NEWLINE) (behind_newlines [] bs) (behind_newlines (line ++ (b ∷ [])) bs)

-- What follows the last newline is a line only if it has bytes.
abbrev pub last_line : List ℕ → List (List ℕ)
last_line [] = []
last_line (b ∷ bs) = (b ∷ bs) ∷ []

-- The lines of a sheet. Lines end with a newline; the last may lack it.
abbrev pub lines_of : List ℕ → List (List ℕ)
lines_of sheet = ended_lines [] sheet ++ last_line (behind_newlines [] sheet)

-- The call that a line is, if it is an addition, a removal or a replacement. Other lines change nothing.
abbrev pub line_calls : Line → List Call
line_calls is_blank = []
line_calls too_long = []
line_calls no_command = []
line_calls (is (sheet.add head ps ns)) = change (add (rule_from head ps ns)) ∷ []
line_calls (is (sheet.remove slot)) = change (remove slot) ∷ []
line_calls (is (sheet.replace slot head ps ns)) = change (replace slot (rule_from head ps ns)) ∷ []
line_calls (is (sheet.why atom)) = []
line_calls (is sheet.labels) = []

-- The calls of some lines, in their order, and those of a sheet.
unfoldable pub lines_calls : List (List ℕ) → List Call
lines_calls [] = []
lines_calls (line ∷ lines) = line_calls (reading line) ++ lines_calls lines

abbrev pub calls_of : List ℕ → List Call
calls_of sheet = lines_calls (lines_of sheet)
