-- Private: the bytes that the records of slots are. Assumes nothing.
use Rattle.std.specs.Prelude.{ℕ, List, leb, take, drop}
use Rattle.theory.specs.Rules.{Page}
use Rattle.table.specs.declared.Rule.{Rule}
use Rattle.table.specs.Rules.{rule_of, book_of}
use Rattle.file_blocks.specs.Places.{place_bytes, recorded, records}
use Rattle.file_blocks.specs.Files.{places_bytes}

-- The page of a slot that holds a rule: muted from state 2 on.
abbrev pub held_page : Rule → Page
held_page r = record { rule = rule_of r; muted = leb 2 r.state }

-- The record of such a slot.
unfoldable pub record_bytes : ℕ → Rule → List ℕ
record_bytes s r = place_bytes (recorded s (held_page r))

-- So many records of the rules, from one on.
unfoldable pub records_bytes : List Rule → ℕ → ℕ → List ℕ
records_bytes rules from n = places_bytes (take n (drop from (records (book_of rules))))
