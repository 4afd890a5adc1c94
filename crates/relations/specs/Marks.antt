-- Private: an atom that comes into a set if a test is passed. Assumes nothing.
use Rattle.std.specs.Prelude.{ℕ, Bool, true, false, List, set}

-- The flag of an atom becomes true, or all stay.
abbrev pub mark_if : Bool → List Bool → ℕ → List Bool
mark_if true flags a = set flags a true
mark_if false flags a = flags
