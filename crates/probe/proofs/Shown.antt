-- The bounds of request #104, of what `probe_rounds` tells of any table. Assumes nothing.
use Prim.Native.Nat.{ℕ}
use native.Mathlib.Omega.{arith}
use mathlib.Core.Path.{◌≡◌}
use Rattle.theory.specs.Models.{AtomSet, Admissible}
use Rattle.theory.specs.Dependencies.{Stratum}
use Rattle.theory.specs.Rounds.{RoundsWithin}
use Rattle.theory.proofs.Bounds.{told-within}
use Rattle.table.specs.declared.Table.{Table}
use Rattle.table.specs.Rules.{active_of, book_of, program_of}
use Rattle.table.specs.Words.{rules_of}
use Rattle.table.specs.Sets.{number}
use Rattle.probe.specs.declared.RoundsCounted.{RoundsCounted}
use Rattle.probe.specs.Probes.{counted, no_strata, not_fit, RoundsProbe}

-- Where nothing is refused, M being the in atoms, the number told of each layer lies within the bounds.
pub probe-shown :
    (t : Table) (r : RoundsCounted) → RoundsProbe t r → r.refused ≡ 0 → (M : AtomSet)
    → Admissible (active_of (rules_of t.words)) M → (a k : ℕ) → Stratum (program_of (rules_of t.words)) a k
    → RoundsWithin (book_of (rules_of t.words)) M k (number r.rounds k)
probe-shown t r (not_fit f) e M A a k S = absurd (omega arith)
probe-shown t r (no_strata f c) e M A a k S = absurd (omega arith)
probe-shown t r (counted rounds f free long told) e M A a k S =
    told-within (book_of (rules_of t.words)) M A a k (number rounds k) S (told k)
