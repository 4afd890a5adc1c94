use Prim.Native.Nat.{◌≤◌}
use Rattle.reason_atoms.specs.SupportEntries.{CopiedTo}
use Rattle.reason_atoms.proofs.copy_entries.Given as goal

abbrev pub invariant-loop-j : goal.invariant-loop-j
invariant-loop-j l = (l.j ≤ l.n) × CopiedTo l.rule.entries l.j l.from l.initial.entries l.entries
