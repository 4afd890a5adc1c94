-- The lines that are printed of a command that was obeyed, and of a refusal (specification 6.7 to 6.9): words and
-- decimal fields parted by one space, each line with its newline. Assumes nothing.
use Rattle.std.specs.Prelude.{ℕ, List, ◌++◌}
use Rattle.fields.specs.Texts.{bytes, newline}
use Rattle.fields.specs.Fields.{field, fields}

-- A word and a number: `slot` and the slot; `removed` and the slot.
unfoldable pub named : List ℕ → ℕ → List ℕ
named word n = word ++ (field n ++ newline)

-- `why` and the reason's slots.
unfoldable pub why_line : List ℕ → List ℕ
why_line slots = bytes "why" ++ (fields slots ++ newline)

-- `line`, line number, `refused`, number.
unfoldable pub refusal_line : ℕ → ℕ → List ℕ
refusal_line line n = bytes "line" ++ (field line ++ (bytes " refused" ++ (field n ++ newline)))
