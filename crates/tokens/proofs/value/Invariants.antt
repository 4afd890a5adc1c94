use Prim.Native.Nat.{◌^◌, ◌≤◌, ◌<◌}
use mathlib.Core.Path.{◌≡◌}
use lib.ListN.{length, drop}
use Rattle.tokens.specs.Numerals.{spelled_from}
use Rattle.tokens.proofs.value.Given as goal

abbrev pub invariant-loop-b : goal.invariant-loop-b
invariant-loop-b l = (l.b-index ≤ length l.token) × (l.n < 10 ^ l.b-index) × (spelled_from l.n (drop l.b-index l.token) ≡ spelled_from 0 l.token)
