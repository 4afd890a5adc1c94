-- What the functions that look for two equal rules tell each other (private): the key of a rule, and the links from
-- a key to the slots whose rules have it. Assumes nothing.
use Rattle.std.specs.Prelude.{ℕ, ◌+◌, ◌*◌, ◌%◌, ◌/◌, List, [], ◌∷◌}
use Rattle.std.proofs.Math.Option.{Option, none, some}
use Rattle.theory.specs.Rules.{Rule, entries}
use Rattle.theory.specs.Limits.{document}

-- There are as many keys as slots.
abbrev pub keys : ℕ
keys = document.slots

-- Sums are taken modulo the square of it, which no atom's number reaches: a key is the upper half of such a sum.
abbrev pub modulus : ℕ
modulus = keys * keys

-- A sum of powers of this number spreads heads and entries that follow each other. (Any odd number would do.)
abbrev pub factor : ℕ
factor = 8121

-- The key of a rule: a number made of its head and its entries in their order. Equal rules have the same key; of others
-- few share one.
unfoldable pub mixed : ℕ → List ℕ → ℕ
mixed k [] = factor * k % modulus / keys
mixed k (x ∷ xs) = mixed ((factor * k + x) % modulus) xs

abbrev pub key : Rule → ℕ
key q = mixed q.head (entries q)

-- The key by which a slot is linked: that of its rule. A free slot has one past the last, by which nothing is linked.
abbrev pub slot_key : Option Rule → ℕ
slot_key none = keys
slot_key (some q) = key q
