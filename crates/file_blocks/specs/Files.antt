-- The file of the pages of a book: their rules and marks as blocks of 512 bytes (specification 7.1 to 7.4). Assumes
-- nothing.
use Rattle.std.specs.Prelude.{ℕ, zero, suc, ◌+◌, ◌-◌, ◌/◌, max, List, [], ◌∷◌, ◌++◌, length, take, drop}
use Rattle.theory.specs.Rules.{Pages}
use Rattle.file_blocks.specs.Words.{word, padded}
use Rattle.file_blocks.specs.Sums.{sum_a, sum_b}
use Rattle.file_blocks.specs.Places.{Place, place_bytes, records}

-- A block has 512 bytes. The first 508 of them are summed up: a header of 6, and from there on 22 places of 22 bytes
-- each. A file has at most 12 blocks.
abbrev pub BLOCK : ℕ
BLOCK = 512

abbrev pub BODY : ℕ
BODY = 508

abbrev pub HEADER : ℕ
HEADER = 6

abbrev pub PLACES : ℕ
PLACES = 22

abbrev pub PLACE : ℕ
PLACE = 22

abbrev pub BLOCKS : ℕ
BLOCKS = 12

-- The bytes of some places, one behind the other.
unfoldable pub places_bytes : List Place → List ℕ
places_bytes [] = []
places_bytes (p ∷ ps) = place_bytes p ++ places_bytes ps

-- The first 508 bytes of a block: its index, the number of blocks, the number of its records, these records. Unused
-- places and the bytes behind the places are zero.
abbrev pub body_of : ℕ → ℕ → List Place → List ℕ
body_of index blocks ps =
    padded BODY (word index ++ (word blocks ++ (word (length ps) ++ places_bytes ps)))

-- Behind them stand the two sums.
abbrev pub block_of : ℕ → ℕ → List Place → List ℕ
block_of index blocks ps =
    let body = body_of index blocks ps in
    body ++ (word (sum_a body) ++ word (sum_b body))

-- So many blocks, from an index on: every block but the last holds 22 records.
unfoldable pub blocks_from : ℕ → ℕ → ℕ → List Place → List ℕ
blocks_from zero index blocks ps = []
blocks_from (suc k) index blocks ps =
    block_of index blocks (take PLACES ps) ++ blocks_from k (suc index) blocks (drop PLACES ps)

-- How many blocks so many records take: the last holds at least 1, but the empty table is one block of 0.
abbrev pub blocks_for : ℕ → ℕ
blocks_for n = max 1 ((n + PLACES - 1) / PLACES)

-- The file of some records, and of the pages of a book.
abbrev pub file_with : List Place → List ℕ
file_with ps = blocks_from (blocks_for (length ps)) 0 (blocks_for (length ps)) ps

unfoldable pub file_of : Pages → List ℕ
file_of B = file_with (records B)
