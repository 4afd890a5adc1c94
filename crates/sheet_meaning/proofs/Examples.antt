-- The lines and calls of some sheets, the specification's among them. Assumes nothing.
use mathlib.Core.Path.{◌≡◌, refl}
use mathlib.Core.List.{[], ◌∷◌, map}
use Rattle.theory.specs.Book.{add, remove, replace}
use Rattle.table.specs.Questions.{rule_from}
use Rattle.history.specs.Calls.{change}
use Rattle.fields.specs.Texts.{bytes}
use Rattle.tokens.specs.Tokens.{onto, pieces, filled, tokens}
use Rattle.tokens.specs.Numerals.{digits, value_from, needless, spelled_from, numeral}
use Rattle.tokens.specs.Tokens.{one}
use Rattle.sheet_lines.specs.Commands.{numerals, before, after, rule_form, replacement, only, labels_form, form, command}
use Rattle.sheet_lines.specs.Readings.{spaces, blank, reading}
use Rattle.sheet_meaning.specs.Calls.{ended_lines, behind_newlines, lines_of, lines_calls, calls_of}

-- What follows the last newline is a line only if it has bytes; a line may have none.
pub lines-shown :
    map lines_of (bytes "" ∷ bytes "L" ∷ bytes "L\n" ∷ bytes "\nL" ∷ bytes "R 1\n\nL\n" ∷ [])
    ≡ []
    ∷ (bytes "L" ∷ [])
    ∷ (bytes "L" ∷ [])
    ∷ ([] ∷ bytes "L" ∷ [])
    ∷ (bytes "R 1" ∷ [] ∷ bytes "L" ∷ [])
    ∷ []
unfolding bytes ended_lines behind_newlines
lines-shown = refl

-- The first nine lines of the specification's sheet (specification 6.10); and a sheet with a blank line, an unread
-- line, a refused number, a replacement and a last line without its newline.
pub calls-shown :
    map calls_of
    (bytes "A 1 : 2\nA 2 : ! 3\nA 4 : 1\nA 3 :\nL\nR 3\nL\nW 1\nW 3\n"
    ∷ bytes "\nA 1:2\nR 999\nP 0 8 : 9\nA 5 : 6 ! 7"
    ∷ [])
    ≡ (change (add (rule_from 1 (2 ∷ []) []))
    ∷ change (add (rule_from 2 [] (3 ∷ [])))
    ∷ change (add (rule_from 4 (1 ∷ []) []))
    ∷ change (add (rule_from 3 [] []))
    ∷ change (remove 3)
    ∷ [])
    ∷ (change (remove 999)
    ∷ change (replace 0 (rule_from 8 (9 ∷ []) []))
    ∷ change (add (rule_from 5 (6 ∷ []) (7 ∷ [])))
    ∷ [])
    ∷ []
unfolding bytes ended_lines behind_newlines lines_calls reading blank spaces command form rule_form replacement only
    labels_form
    numerals before after one tokens pieces filled onto numeral digits needless spelled_from value_from
calls-shown = refl
