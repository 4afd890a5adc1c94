-- A table's numbers (specification 1.10): what stands in each slot. Assumes nothing.
use Rattle.std.specs.Prelude.{ℕ, zero, suc, ◌+◌, ◌*◌, List, [], ◌∷◌, get_or, set}
use Rattle.std.proofs.Math.Seq.{paste}
use Rattle.theory.specs.Limits.{document}
use Rattle.table.specs.declared.Atom.{Atom}
use Rattle.table.specs.declared.Rule.{Rule}
use Rattle.table.specs.declared.Table.{Table}
use Rattle.table.specs.Rules.{no_atom}

-- Numbers to a slot, and to a table.
abbrev pub width : ℕ
width = 14

abbrev pub words : ℕ
words = width * document.slots

-- The table that has these numbers.
abbrev pub table_of : List ℕ → Table
table_of numbers = record { words = numbers }

-- The number at a place of slot s, and an atom there.
abbrev pub number_in : List ℕ → ℕ → ℕ → ℕ
number_in table s k = get_or table (width * s + k) 0

abbrev pub atom_in : List ℕ → ℕ → ℕ → Atom
atom_in table s k = record { 0 = number_in table s k }

-- The rule of a slot: state, head, how many positives, how many negatives, the entries.
abbrev pub rule_at : List ℕ → ℕ → Rule
rule_at table s =
    record {
      state = get_or table (width * s) 0;
      head = atom_in table s 1;
      positives = number_in table s 2;
      negatives = number_in table s 3;
      entries =
          atom_in table s 4
          ∷ atom_in table s 5
          ∷ atom_in table s 6
          ∷ atom_in table s 7
          ∷ atom_in table s 8
          ∷ atom_in table s 9
          ∷ atom_in table s 10
          ∷ atom_in table s 11
          ∷ [];
    }

-- What a slot keeps: a depth, and the place of a spoiler.
abbrev pub depth_at : List ℕ → ℕ → ℕ
depth_at table s = number_in table s 12

abbrev pub spoiler_at : List ℕ → ℕ → ℕ
spoiler_at table s = number_in table s 13

-- What f reads of n slots from slot s on, in their order.
unfoldable pub from_slot : {A : Type 0} → (ℕ → A) → ℕ → ℕ → List A
from_slot f s zero = []
from_slot f s (suc n) = f s ∷ from_slot f (suc s) n

-- The rules of all slots.
unfoldable pub rules_of : List ℕ → List Rule
rules_of table = from_slot (rule_at table) 0 document.slots

-- The numbers of a rule, as they stand in its slot.
abbrev pub rule_words : Rule → List ℕ
rule_words r =
    r.state
    ∷ r.head.0
    ∷ r.positives
    ∷ r.negatives
    ∷ (get_or r.entries 0 no_atom).0
    ∷ (get_or r.entries 1 no_atom).0
    ∷ (get_or r.entries 2 no_atom).0
    ∷ (get_or r.entries 3 no_atom).0
    ∷ (get_or r.entries 4 no_atom).0
    ∷ (get_or r.entries 5 no_atom).0
    ∷ (get_or r.entries 6 no_atom).0
    ∷ (get_or r.entries 7 no_atom).0
    ∷ []

-- A table's numbers where slot s has other ones for its rule, or keeps another depth and spoiler.
abbrev pub with_rule : List ℕ → ℕ → Rule → List ℕ
with_rule table s r = paste table (width * s) (rule_words r) 12

abbrev pub with_kept : List ℕ → ℕ → ℕ → ℕ → List ℕ
with_kept table s depth spoiler = set (set table (width * s + 12) depth) (width * s + 13) spoiler
