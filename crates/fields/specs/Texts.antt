-- Texts as bytes. Assumes nothing.
use Rattle.std.specs.Prelude.{ℕ, List, [], ◌∷◌}
use Prim.Native.Char.{code}
use Prim.Native.String as text

-- The bytes of a text in ASCII.
unfoldable pub bytes : text.String → List ℕ
bytes text.[] = []
bytes (text.◌∷◌ c s) = code c ∷ bytes s

-- The byte that ends a line.
abbrev pub NEWLINE : ℕ
NEWLINE = 10

abbrev pub newline : List ℕ
newline = NEWLINE ∷ []
