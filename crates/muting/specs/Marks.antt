-- Private: a slot with its mark set. Assumes nothing.
use Rattle.std.specs.Prelude.{Bool}
use Rattle.table.specs.declared.Rule.{Rule}
use Rattle.table.specs.Rules.{state_of}

-- The slot as it is, but for its state, which is that of the mark.
abbrev pub slot_marked : Bool → Rule → Rule
slot_marked m r =
    record {
      state = state_of m;
      head = r.head;
      positives = r.positives;
      negatives = r.negatives;
      entries = r.entries;
    }
