-- What the functions of the reader tell each other: private to this crate. Assumes nothing.
use Rattle.std.specs.Prelude.{ℕ, ◌+◌, ◌≤◌, ◌≡◌, List, [], ◌∷◌, length, drop}
use Rattle.std.proofs.Math.Option.{Option, none, some}
use Rattle.std.proofs.lemmas.List.Edits.{sets}
use Rattle.places.specs.declared.Place.{Place}
use Rattle.places.specs.Places.{Onward}
use Rattle.tokens.specs.Tokens.{tokens}
use Rattle.tokens.specs.Numerals.{numeral}
use Rattle.sheet_lines.specs.Commands.{Command, numerals, before, after, made_of_rule}
use Rattle.sheet_lines.specs.Readings.{is, lists_of, command_of}
use Rattle.sheet_lines.specs.declared.Command as declared
use Rattle.sheet_lines.specs.declared.read.Numbers.{Numbers}

-- The numbers that tokens begin with, up to the first token that is none; and the tokens from that one on.
abbrev pub cons_if : Option ℕ → List ℕ → List ℕ
cons_if none ns = []
cons_if (some n) ns = n ∷ ns

unfoldable pub leading_numbers : List (List ℕ) → List ℕ
leading_numbers [] = []
leading_numbers (t ∷ ts) = cons_if (numeral t) (leading_numbers ts)

abbrev pub tail_if : Option ℕ → List (List ℕ) → List (List ℕ) → List (List ℕ)
tail_if none all tail = all
tail_if (some n) all tail = tail

unfoldable pub past_numbers : List (List ℕ) → List (List ℕ)
past_numbers [] = []
past_numbers (t ∷ ts) = tail_if (numeral t) (t ∷ ts) (past_numbers ts)

-- The code's command is what f makes of this number, whatever the lists beside it.
abbrev pub IsCommandFor : (ℕ → List ℕ → List ℕ → Command) → ℕ → declared.Command → Type 0
IsCommandFor f h x = (ps ns : List ℕ) → command_of x ps ns ≡ f h ps ns

-- Of each number the code makes the command that f makes of it.
abbrev pub Makes : (ℕ → declared.Command → Type 0) → (ℕ → List ℕ → List ℕ → Command) → Type 0
Makes post f = (h : ℕ) (x : declared.Command) → post h x → IsCommandFor f h x

-- What f makes of a rule's head and lists has those lists: it adds the rule, or replaces one by it.
abbrev pub OfRule : (ℕ → List ℕ → List ℕ → Command) → Type 0
OfRule f = (h : ℕ) (ps ns : List ℕ) → lists_of (is (f h ps ns)) ≡ (ps, ns)

-- What f makes of this head and the lists that the tokens are.
abbrev pub rule_command : (ℕ → List ℕ → List ℕ → Command) → ℕ → List (List ℕ) → Option Command
rule_command f h ts = made_of_rule f (some h) (numerals (before ts)) (numerals (after ts))

-- The numbers that the line begins with from a place on were stored behind the first k of xs.
pub record Collected (line xs : List ℕ) (k : ℕ) (from : Place) (r : Numbers) : Type 0 where
  pub entries : r.entries ≡ sets xs k (leading_numbers (tokens (drop from.offset line)))
  pub count : r.count ≡ k + length (leading_numbers (tokens (drop from.offset line)))
  pub inside : r.next.offset ≤ length line
  pub onward : Onward line from r.next
  pub rest : tokens (drop r.next.offset line) ≡ past_numbers (tokens (drop from.offset line))
