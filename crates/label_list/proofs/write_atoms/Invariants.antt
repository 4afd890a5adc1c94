use Prim.Native.Nat.{◌≤◌}
use mathlib.Core.Path.{◌≡◌}
use lib.ListN.{length}
use Rattle.theory.specs.Limits.{document}
use Rattle.table.specs.Sets.{member, number}
use Rattle.written_lists.specs.Written.{Appends}
use Rattle.label_list.specs.Listed.{up_to}
use Rattle.label_list.specs.Found.{found_numbers}
use Rattle.label_list.proofs.write_atoms.Given as goal

abbrev pub invariant-loop-i : goal.invariant-loop-i
invariant-loop-i l =
    (l.i ≤ document.atoms) × (length l.buffer ≡ length l.initial.buffer)
    × Appends (up_to (found_numbers (member l.there) (member l.flags) (number l.depths) (number l.slots)) l.i) 0 l.next l.initial.buffer l.buffer
