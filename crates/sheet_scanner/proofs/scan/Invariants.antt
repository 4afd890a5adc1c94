use Prim.Native.Nat.{suc, ◌-◌}
use mathlib.Core.Bool.{cond}
use lib.ListN.{length}
use Rattle.sheet_scanner.proofs.Scanning.{Since}
use Rattle.sheet_scanner.proofs.scan.Given as goal

abbrev pub invariant-loop-done : goal.invariant-loop-done
invariant-loop-done l = Since l.input l.initial.out l.initial.done l.out l.done

abbrev pub decreases-loop-done : goal.decreases-loop-done
decreases-loop-done l = cond l.done.more (suc (length l.input - l.done.read)) 0
