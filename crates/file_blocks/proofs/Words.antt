-- Laws of numbers of two bytes. Assumes nothing.
use Rattle.std.proofs.Common.{◌≡◌, ℕ, ◌+◌, ◌≤◌, List, [], ◌∷◌, length, take, drop, set, ◌∙◌, append_assoc, add-one, arith}
use lib.Seq.{sets-eq}
use Rattle.fields.specs.Written.{put}

-- Two bytes stored one behind the other.
pub two-sets-put :
    (out : List ℕ) (at low high : ℕ) → at + 2 ≤ length out
    → set (set out at low) (at + 1) high ≡ put out at (low ∷ high ∷ [])
unfolding put
two-sets-put out at low high l =
    rw (add-one at) (sets-eq (low ∷ high ∷ []) out at (omega arith)
    ∙ append_assoc (take at out) (low ∷ high ∷ []) (drop (at + 2) out))
