-- Private: the bytes of a block and of its parts. Assumes nothing.
use Rattle.std.specs.Prelude.{ℕ, ◌*◌, List, ◌++◌, take, drop}
use Rattle.table.specs.declared.Rule.{Rule}
use Rattle.table.specs.Rules.{book_of}
use Rattle.file_blocks.specs.Words.{word}
use Rattle.file_blocks.specs.Sums.{sum_a, sum_b}
use Rattle.file_blocks.specs.Places.{records}
use Rattle.file_blocks.specs.Files.{PLACES, block_of}

-- The head of a block: its index, the number of blocks, the number of its records.
unfoldable pub header_bytes : ℕ → ℕ → ℕ → List ℕ
header_bytes index blocks n = word index ++ (word blocks ++ word n)

-- The two sums of a body.
unfoldable pub sums_bytes : List ℕ → List ℕ
sums_bytes body = word (sum_a body) ++ word (sum_b body)

-- The block of an index.
unfoldable pub block_bytes : ℕ → ℕ → List Rule → List ℕ
block_bytes index blocks rules =
    block_of index blocks (take PLACES (drop (PLACES * index) (records (book_of rules))))
