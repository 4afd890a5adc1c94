-- The commands of a sheet and their forms (specification 6.7). Assumes nothing.
use Rattle.std.specs.Prelude.{ℕ, cond, List, [], ◌∷◌}
use Prim.Native.Char.{code}
use Rattle.std.proofs.Math.Option.{Option, none, some}
use Rattle.tokens.specs.Tokens.{tokens, one}
use Rattle.tokens.specs.Numerals.{numeral}

pub data Command : Type 0 where
  add : ℕ → List ℕ → List ℕ → Command  -- head, positives, negatives
  remove : ℕ → Command  -- slot
  replace : ℕ → ℕ → List ℕ → List ℕ → Command  -- slot, head, positives, negatives
  why : ℕ → Command  -- atom
  labels : Command

-- The numbers that tokens are, if each is one.
abbrev pub consed : Option ℕ → Option (List ℕ) → Option (List ℕ)
consed none ns = none
consed (some n) none = none
consed (some n) (some ns) = some (n ∷ ns)

unfoldable pub numerals : List (List ℕ) → Option (List ℕ)
numerals [] = some []
numerals (t ∷ ts) = consed (numeral t) (numerals ts)

-- The tokens before the first `!` and those after it. Where there is none, all come before.
unfoldable pub before : List (List ℕ) → List (List ℕ)
before [] = []
before (t ∷ ts) = cond (one (code "!") t) [] (t ∷ before ts)

unfoldable pub after : List (List ℕ) → List (List ℕ)
after [] = []
after (t ∷ ts) = cond (one (code "!") t) ts (after ts)

-- What is made of a rule: its head, its positives and its negatives, if each is there.
abbrev pub made_of_rule : (ℕ → List ℕ → List ℕ → Command) → Option ℕ → Option (List ℕ) → Option (List ℕ) → Option Command
made_of_rule f none ps ns = none
made_of_rule f (some h) none ns = none
made_of_rule f (some h) (some ps) none = none
made_of_rule f (some h) (some ps) (some ns) = some (f h ps ns)

-- What follows `A`, or the slot of `P`: head, `:`, positives, then optionally `!` and negatives.
unfoldable pub rule_form : (ℕ → List ℕ → List ℕ → Command) → List (List ℕ) → Option Command
rule_form f [] = none
rule_form f (h ∷ []) = none
rule_form f (h ∷ c ∷ ts) =
    cond (one (code ":") c) (made_of_rule f (numeral h) (numerals (before ts)) (numerals (after ts))) none

-- What follows `P`: a slot, then what follows `A`.
abbrev pub in_slot : Option ℕ → List (List ℕ) → Option Command
in_slot none ts = none
in_slot (some s) ts = rule_form (replace s) ts

unfoldable pub replacement : List (List ℕ) → Option Command
replacement [] = none
replacement (s ∷ ts) = in_slot (numeral s) ts

-- What follows `R` or `W`: one number.
unfoldable pub only : List (List ℕ) → Option ℕ
only [] = none
only (t ∷ []) = numeral t
only (t ∷ u ∷ ts) = none

abbrev pub made : (ℕ → Command) → Option ℕ → Option Command
made f none = none
made f (some n) = some (f n)

-- What follows `L`: nothing.
unfoldable pub labels_form : List (List ℕ) → Option Command
labels_form [] = some labels
labels_form (t ∷ ts) = none

-- The forms: `A`, `R`, `P`, `W` or `L`, and what follows it.
unfoldable pub form : List (List ℕ) → Option Command
form [] = none
form (t ∷ ts) =
    cond (one (code "A") t) (rule_form add ts)
    (cond (one (code "R") t) (made remove (only ts))
    (cond (one (code "P") t) (replacement ts)
    (cond (one (code "W") t) (made why (only ts))
    (cond (one (code "L") t) (labels_form ts) none))))

unfoldable pub command : List ℕ → Option Command
command line = form (tokens line)
