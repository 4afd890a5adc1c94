-- Laws of the greatest number among a rule's positive entries, read one after the other. Assumes nothing.
use Prim.Native.Nat.{ℕ, ◌+◌, ◌≤◌, ◌<◌, min, max}
use native.Mathlib.Omega.{arith}
use mathlib.Core.Path.{◌≡◌, sym, ◌∙◌, ap}
use mathlib.Core.List.{List}
use lib.ListN.{length, get_or, take}
use lib.Seq.{slice}
use Rattle.std.proofs.Math.Seq.{take-length}
use Rattle.theory.specs.Lists.{greatest}
use Rattle.table.specs.declared.Atom.{Atom}
use Rattle.table.specs.declared.Rule.{Rule}
use Rattle.table.specs.Rules.{numbers, rule_of, no_atom}
use Rattle.table.proofs.Entries.{greatest-over, greatest-next, positives-are}

-- A walk over the first n of some entries has come to j: what was found, and what is left, give the whole.
pub record Walked (d : ℕ → ℕ) (xs : List Atom) (n whole most j : ℕ) : Type 0 where
  pub small : most ≤ 65535
  pub all : max most (greatest d (numbers (slice j n xs))) ≡ whole

module _ (d : ℕ → ℕ) (xs : List Atom) (n whole most : ℕ) where
  pub walked-over : (j : ℕ) → n ≤ j → Walked d xs n whole most j → most ≡ whole
  walked-over j l W = omega (arith, greatest-over d xs j n l, W.all)

  pub walked_next :
      (j v next : ℕ) → j < n → n ≤ length xs → v ≡ d (get_or xs j no_atom).0 → v ≤ 65535 → next ≡ max most v
      → Walked d xs n whole most j → Walked d xs n whole next (j + 1)
  walked_next j v next l k e h f W =
      record { small = omega (arith, W.small); all = omega (arith, greatest-next d xs j n l k, W.all) }

-- At the start all is left: the positive entries are the first n.
pub walked_start :
    (d : ℕ → ℕ) (r : Rule) (b n : ℕ) → length r.entries ≡ b → n ≡ min r.positives b
    → Walked d (take n r.entries) (length (take n r.entries)) (greatest d (rule_of r).positives) 0 0
walked_start d r b n l e =
    record {
      small = omega arith;
      all = omega (
        arith,
        ap (greatest d)
            (ap numbers (take-length (take n r.entries)) ∙ sym (positives-are r b l n e)),
      );
    }
