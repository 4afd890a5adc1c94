-- What a line is (specification 6.4 and 6.8), and how the code's answer says it. Assumes nothing.
use Rattle.std.specs.Prelude.{ℕ, ◌+◌, ◌-◌, ◌≤◌, ◌≡◌, Bool, true, cond, ◌&&◌, List, [], ◌∷◌, leb, ltb, length, take, drop, replicate}
use Rattle.std.proofs.Math.Option.{Option, none, some}
use Rattle.places.specs.Places.{is_space}
use Rattle.sheet_lines.specs.Commands as spec
use Rattle.sheet_lines.specs.Commands.{command}
use Rattle.sheet_lines.specs.declared.Command.{Command}
use Rattle.sheet_lines.specs.declared.Command.TheVariants.{Add, Remove, Replace, Why, Labels}
use Rattle.sheet_lines.specs.declared.Reading.{Reading}
use Rattle.sheet_lines.specs.declared.Reading.TheVariants as reading-of
use Rattle.sheet_lines.specs.declared.Parsed.{Parsed}

-- The most bytes of a line, its newline not counted (question 14).
abbrev pub LINE : ℕ
LINE = 120

-- The most tokens of a line, which are parted by spaces: room for the entries of one line.
abbrev pub TOKENS : ℕ
TOKENS = 60

unfoldable pub spaces : List ℕ → Bool
spaces [] = true
spaces (b ∷ bs) = is_space b && spaces bs

-- No bytes, or at most 120 spaces and nothing else.
unfoldable pub blank : List ℕ → Bool
blank line = leb (length line) LINE && spaces line

-- What a line is: blank, refused by question 14, refused by question 13, or a command.
pub data Line : Type 0 where
  is_blank : Line
  too_long : Line
  no_command : Line
  is : spec.Command → Line

abbrev pub whether : Option spec.Command → Line
whether none = no_command
whether (some c) = is c

-- A blank line prints nothing; else question 14 comes first, then 13.
unfoldable pub reading : List ℕ → Line
reading line = cond (blank line) is_blank (cond (ltb LINE (length line)) too_long (whether (command line)))

-- The command that the code's answer names, with the lists that stand beside it.
abbrev pub command_of : Command → List ℕ → List ℕ → spec.Command
command_of (Add head) ps ns = spec.add head ps ns
command_of (Remove slot) ps ns = spec.remove slot
command_of (Replace slot head) ps ns = spec.replace slot head ps ns
command_of (Why atom) ps ns = spec.why atom
command_of Labels ps ns = spec.labels

abbrev pub line_of : Reading → List ℕ → List ℕ → Line
line_of reading-of.Blank ps ns = is_blank
line_of reading-of.LineTooLong ps ns = too_long
line_of reading-of.NotACommand ps ns = no_command
line_of (reading-of.Command c) ps ns = is (command_of c ps ns)

-- The lists of a rule, as they stand beside it.
abbrev pub positives_in : Parsed → List ℕ
positives_in r = take r.positives r.entries

abbrev pub negatives_in : Parsed → List ℕ
negatives_in r = take r.negatives (drop r.positives r.entries)

abbrev pub reading_of : Parsed → Line
reading_of r = line_of r.reading (positives_in r) (negatives_in r)

-- The lists of a line: those of an addition or a replacement; any other line has none.
abbrev pub lists_of : Line → List ℕ × List ℕ
lists_of is_blank = ([], [])
lists_of too_long = ([], [])
lists_of no_command = ([], [])
lists_of (is (spec.add head ps ns)) = (ps, ns)
lists_of (is (spec.remove slot)) = ([], [])
lists_of (is (spec.replace slot head ps ns)) = (ps, ns)
lists_of (is (spec.why atom)) = ([], [])
lists_of (is spec.labels) = ([], [])

abbrev pub positives_of : Line → List ℕ
positives_of l = (lists_of l).0

abbrev pub negatives_of : Line → List ℕ
negatives_of l = (lists_of l).1

-- The answer for a line that is l: it says so, its lists are as long as the line's and lie within the entries, and
-- every entry past them is 0. So nothing of the answer is left open but its place, of which `Onward` speaks.
pub record Answers (l : Line) (r : Parsed) : Type 0 where
  pub meaning : reading_of r ≡ l
  pub positives : r.positives ≡ length (positives_of l)
  pub negatives : r.negatives ≡ length (negatives_of l)
  pub within : r.positives + r.negatives ≤ TOKENS
  pub filler : drop (r.positives + r.negatives) r.entries ≡ replicate (TOKENS - (r.positives + r.negatives)) 0
