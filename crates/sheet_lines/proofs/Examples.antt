-- Lines and what they are, in one list with one claim over it. Assumes nothing.
use Prim.Native.Nat.{ℕ, zero, suc}
use Prim.Native.String as text
use mathlib.Core.Path.{◌≡◌, refl}
use mathlib.Core.List.{List, [], ◌∷◌, ◌++◌, map}
use lib.ListN.{replicate}
use Rattle.fields.specs.Texts.{bytes}
use Rattle.tokens.specs.Tokens.{onto, pieces, filled, tokens}
use Rattle.tokens.specs.Numerals.{digits, value_from, needless, spelled_from, numeral}
use Rattle.tokens.specs.Tokens.{one}
use Rattle.sheet_lines.specs.Commands.{add, remove, replace, why, labels, numerals, before, after}
use Rattle.sheet_lines.specs.Commands.{rule_form, replacement, only, labels_form, form, command}
use Rattle.sheet_lines.specs.Readings.{spaces, blank, Line, is_blank, too_long, no_command, is, reading}

record Example : Type 0 where
  line : List ℕ
  what : Line

example : text.String → Line → Example
example t l = record { line = bytes t; what = l }

-- As many entries as fit in 120 bytes.
sevens : ℕ → List ℕ
sevens zero = []
sevens (suc n) = bytes " 7" ++ sevens n

examples : List Example
examples =
    example "" is_blank
    ∷ example "   " is_blank
    ∷ example "A 1 : 2" (is (add 1 (2 ∷ []) []))
    ∷ example "A 2 : ! 3" (is (add 2 [] (3 ∷ [])))
    ∷ example "A 3 :" (is (add 3 [] []))
    ∷ example "A 3 : !" (is (add 3 [] []))
    ∷ example "A 4 : 1 2 ! 3 5 " (is (add 4 (1 ∷ 2 ∷ []) (3 ∷ 5 ∷ [])))
    ∷ example "A 1 : 1 2 3 4 5 6 7 8 9" (is (add 1 (1 ∷ 2 ∷ 3 ∷ 4 ∷ 5 ∷ 6 ∷ 7 ∷ 8 ∷ 9 ∷ []) []))
    ∷ example "A 1 : 1 2 3 4 5 6 7 8 9 x" no_command
    ∷ example "  R   3  " (is (remove 3))
    ∷ example "P 3 1 : 2 ! 4" (is (replace 3 1 (2 ∷ []) (4 ∷ [])))
    ∷ example " P  255  0 : " (is (replace 255 0 [] []))
    ∷ example "P 256 256 : 1 2 3 4 5 6 7 8 9" (is (replace 256 256 (1 ∷ 2 ∷ 3 ∷ 4 ∷ 5 ∷ 6 ∷ 7 ∷ 8 ∷ 9 ∷ []) []))
    ∷ example "W 1" (is (why 1))
    ∷ example "L" (is labels)
    ∷ example "R 0" (is (remove 0))
    ∷ example "R 99999" (is (remove 99999))
    ∷ example "R 65536" (is (remove 65536))
    ∷ example "A 1:2" no_command
    ∷ example "A 1 :2" no_command
    ∷ example "A 1 : !2" no_command
    ∷ example "A 1 ; 2" no_command
    ∷ example "A : 1" no_command
    ∷ example "A 1" no_command
    ∷ example "A" no_command
    ∷ example "A 1 : 1 ! 2 ! 3" no_command
    ∷ example "A 1 ! 2 : 3" no_command
    ∷ example "A 1 : 1 : 2" no_command
    ∷ example "R1" no_command
    ∷ example "R" no_command
    ∷ example "R 1 2" no_command
    ∷ example "R 00" no_command
    ∷ example "R 01" no_command
    ∷ example "R 100000" no_command
    ∷ example "R x" no_command
    ∷ example "P" no_command
    ∷ example "P 1" no_command
    ∷ example "P 1 2" no_command
    ∷ example "P : 1" no_command
    ∷ example "P 1 : 2" no_command
    ∷ example "P 1 2 3 : 4" no_command
    ∷ example "P x 1 :" no_command
    ∷ example "P 1 x :" no_command
    ∷ example "P 01 1 :" no_command
    ∷ example "P 1 2 : 3 ! 4 ! 5" no_command
    ∷ example "p 0 1 :" no_command
    ∷ example "L 1" no_command
    ∷ example "l" no_command
    ∷ example "W" no_command
    ∷ example "R\t1" no_command
    ∷ example "\tL" no_command
    ∷ example "L\r" no_command
    ∷ example "R \0" no_command
    ∷ record { line = replicate 120 32; what = is_blank }
    ∷ record { line = replicate 121 32; what = too_long }
    ∷ record { line = bytes "L" ++ replicate 119 32; what = is labels }
    ∷ record { line = bytes "L" ++ replicate 120 32; what = too_long }
    ∷ record { line = replicate 120 65; what = no_command }
    ∷ record { line = replicate 121 65; what = too_long }
    ∷ record { line = bytes "A 1 :" ++ sevens 57; what = is (add 1 (replicate 57 7) []) }
    ∷ record { line = bytes "P 0 1 :" ++ sevens 56; what = is (replace 0 1 (replicate 56 7) []) }
    ∷ []

holds : map (λ (e : Example). reading e.line) examples ≡ map (λ (e : Example). e.what) examples
unfolding bytes example sevens examples onto pieces filled tokens digits value_from needless spelled_from numeral
    one numerals before after rule_form replacement only labels_form form command spaces blank reading
holds = refl
