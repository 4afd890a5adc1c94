use Prim.Native.Nat.{◌-◌}
use lib.ListN.{length}
use Rattle.sheet_feed.proofs.Feeding.{FedSoFar}
use Rattle.table.specs.Sound.{Sound}
use Rattle.sheet_feed.proofs.feed.Given as goal

abbrev pub invariant-loop-fed : goal.invariant-loop-fed
invariant-loop-fed l = FedSoFar l.initial.fed.sheet l.input l.initial.out l.fed l.out × Sound l.fed.sheet.table

abbrev pub decreases-loop-fed : goal.decreases-loop-fed
decreases-loop-fed l = length l.input - l.fed.read
