-- The small tables T1 to T11 (specification 10.1) and those of requests #102 and #108 (specification 10.2) as one list,
-- and what is claimed of each. Assumes nothing.
use Rattle.std.specs.Prelude.{ℕ, zero, suc, ◌≡◌, true}
use mathlib.Core.List.{List, [], ◌∷◌, ◌++◌, map, Memᴰ}
use Rattle.theory.specs.Lists.{◌∈◌}
use Rattle.theory.specs.Rules.{Pages, active}
use Rattle.theory.specs.Models.{AtomSet, Admissible}
use Rattle.theory.specs.Labels.{Label, absent, out, in_at, Labelled}
use Rattle.theory.specs.Limits.{document}
use Rattle.theory.specs.Book.{Call, add, remove, mute, Answer, refused, slot, accepted, empty, answers, after_all}

-- An atom and its label.
pub record Row : Type 0 where
  pub atom : ℕ
  pub label : Label

-- Calls made one after another on the empty table, their answers, and the labels of the atoms that then occur.
pub record Example : Type 0 where
  pub calls : List Call
  pub told : List Answer
  pub rows : List Row

-- What the calls of an example leave.
abbrev pub left : Example → Pages
left e = after_all document (empty document) e.calls

-- The answers are those told; each named atom has its label in the admissible model; every other atom is absent.
pub record Shows (e : Example) : Type 0 where
  pub answered : answers document (empty document) e.calls ≡ e.told
  pub model : AtomSet
  pub admissible : Admissible (active (left e)) model
  pub labels : (l : Row) → Memᴰ l e.rows → Labelled (left e) model l.atom l.label
  pub others : (a : ℕ) → (a ∈ map (λ l. l.atom) e.rows → ⊥) → Labelled (left e) model a absent

-- The addition of a rule; of a fact, of a rule with one positive entry, with one negative entry.
abbrev pub rule : ℕ → List ℕ → List ℕ → Call
rule h ps ns = add (record { head = h; positives = ps; negatives = ns })

abbrev pub fact : ℕ → Call
fact h = rule h [] []

abbrev pub from : ℕ → ℕ → Call
from h x = rule h (x ∷ []) []

abbrev pub unless : ℕ → ℕ → Call
unless h x = rule h [] (x ∷ [])

infix 70 ◌is◌
abbrev pub ◌is◌ : ℕ → Label → Row
a is l = record { atom = a; label = l }

abbrev pub shows : List Call → List Answer → List Row → Example
shows cs xs ls = record { calls = cs; told = xs; rows = ls }

-- The answers to n additions, each accepted: slots 0 to n - 1.
abbrev pub slots_from : ℕ → ℕ → List Answer
slots_from s zero = []
slots_from s (suc n) = slot s ∷ slots_from (suc s) n

unfoldable pub tables : List Example
tables =
    -- T1
    shows [] [] []
    -- T2
    ∷ shows (fact 1 ∷ from 2 1 ∷ []) (slots_from 0 2) (1 is in_at 1 0 ∷ 2 is in_at 2 1 ∷ [])
    -- T3
    ∷ shows (from 1 2 ∷ from 2 1 ∷ []) (slots_from 0 2) (1 is out ∷ 2 is out ∷ [])
    -- T4, and with slot 2 removed
    ∷ shows (from 1 2 ∷ from 2 1 ∷ fact 2 ∷ []) (slots_from 0 3) (1 is in_at 2 0 ∷ 2 is in_at 1 2 ∷ [])
    ∷ shows (from 1 2 ∷ from 2 1 ∷ fact 2 ∷ remove 2 ∷ [])
    (slots_from 0 3 ++ (accepted ∷ [])) (1 is out ∷ 2 is out ∷ [])
    -- T5, and with a fact
    ∷ shows (unless 1 2 ∷ []) (slots_from 0 1) (1 is in_at 1 0 ∷ 2 is out ∷ [])
    ∷ shows (unless 1 2 ∷ fact 2 ∷ []) (slots_from 0 2) (1 is out ∷ 2 is in_at 1 1 ∷ [])
    -- T6
    ∷ shows (unless 1 2 ∷ unless 2 3 ∷ []) (slots_from 0 2) (1 is out ∷ 2 is in_at 1 1 ∷ 3 is out ∷ [])
    -- T7
    ∷ shows (fact 2 ∷ fact 3 ∷ from 1 3 ∷ from 1 2 ∷ []) (slots_from 0 4)
    (1 is in_at 2 2 ∷ 2 is in_at 1 0 ∷ 3 is in_at 1 1 ∷ [])
    -- T8, and with a fact for 3
    ∷ shows (fact 2 ∷ from 1 2 ∷ from 3 1 ∷ []) (slots_from 0 3)
    (1 is in_at 2 1 ∷ 2 is in_at 1 0 ∷ 3 is in_at 3 2 ∷ [])
    ∷ shows (fact 2 ∷ from 1 2 ∷ from 3 1 ∷ fact 3 ∷ []) (slots_from 0 4)
    (1 is in_at 2 1 ∷ 2 is in_at 1 0 ∷ 3 is in_at 1 3 ∷ [])
    -- T9: a rule that needs its own head is accepted; one that denies it is refused, beside that rule and alone
    ∷ shows (from 1 1 ∷ []) (slots_from 0 1) (1 is out ∷ [])
    ∷ shows (from 1 1 ∷ unless 1 1 ∷ []) (slots_from 0 1 ++ (refused 7 ∷ [])) (1 is out ∷ [])
    ∷ shows (unless 1 1 ∷ []) (refused 7 ∷ []) []
    -- T10: the third rule would close a loop through a negation
    ∷ shows (from 1 2 ∷ unless 2 3 ∷ unless 3 1 ∷ []) (slots_from 0 2 ++ (refused 7 ∷ []))
    (1 is in_at 2 0 ∷ 2 is in_at 1 1 ∷ 3 is out ∷ [])
    -- T11, and with a fact for 5
    ∷ shows (from 1 2 ∷ unless 2 3 ∷ from 1 4 ∷ from 4 3 ∷ from 3 4 ∷ unless 3 5 ∷ []) (slots_from 0 6)
    (1 is in_at 3 2 ∷ 2 is out ∷ 3 is in_at 1 5 ∷ 4 is in_at 2 3 ∷ 5 is out ∷ [])
    ∷ shows (from 1 2 ∷ unless 2 3 ∷ from 1 4 ∷ from 4 3 ∷ from 3 4 ∷ unless 3 5 ∷ fact 5 ∷ []) (slots_from 0 7)
    (1 is in_at 2 0 ∷ 2 is in_at 1 1 ∷ 3 is out ∷ 4 is out ∷ 5 is in_at 1 6 ∷ [])
    -- request #102: the same rule in another order is refused, and with its slot removed the label is gone
    ∷ shows (fact 1 ∷ fact 2 ∷ rule 5 (1 ∷ 2 ∷ []) [] ∷ rule 5 (2 ∷ 1 ∷ []) [] ∷ [])
    (slots_from 0 3 ++ (refused 5 ∷ [])) (1 is in_at 1 0 ∷ 2 is in_at 1 1 ∷ 5 is in_at 2 2 ∷ [])
    ∷ shows (fact 1 ∷ fact 2 ∷ rule 5 (1 ∷ 2 ∷ []) [] ∷ rule 5 (2 ∷ 1 ∷ []) [] ∷ remove 2 ∷ [])
    (slots_from 0 3 ++ (refused 5 ∷ accepted ∷ [])) (1 is in_at 1 0 ∷ 2 is in_at 1 1 ∷ [])
    ∷ shows (rule 5 [] (1 ∷ 2 ∷ []) ∷ rule 5 [] (2 ∷ 1 ∷ []) ∷ []) (slots_from 0 1 ++ (refused 5 ∷ []))
    (1 is out ∷ 2 is out ∷ 5 is in_at 1 0 ∷ [])
    -- and atoms that change lists make another rule
    ∷ shows (fact 1 ∷ rule 5 (1 ∷ []) (2 ∷ []) ∷ rule 5 (2 ∷ []) (1 ∷ []) ∷ []) (slots_from 0 3)
    (1 is in_at 1 0 ∷ 2 is out ∷ 5 is in_at 2 1 ∷ [])
    -- request #108: the head of a muted fact is out, and so is what rests on it; and a muted rule closes a loop
    ∷ shows (fact 1 ∷ from 2 1 ∷ mute 0 true ∷ []) (slots_from 0 2 ++ (accepted ∷ [])) (1 is out ∷ 2 is out ∷ [])
    ∷ shows (unless 1 2 ∷ mute 0 true ∷ unless 2 1 ∷ mute 0 true ∷ [])
    (slots_from 0 1 ++ (accepted ∷ refused 7 ∷ accepted ∷ [])) (1 is out ∷ 2 is out ∷ [])
    ∷ []
