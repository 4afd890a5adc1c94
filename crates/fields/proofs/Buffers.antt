-- Laws of bytes put at a place of a buffer. Assumes nothing.
use Prim.Native.Nat.{ℕ, suc, ◌+◌, ◌≤◌, ◌<◌}
use native.Mathlib.Omega.{arith}
use native.Mathlib.Numerals.{add-one}
use mathlib.Core.Path.{◌≡◌, sym, ◌∙◌, ap}
use mathlib.Core.List.{List, ◌∷◌, ◌++◌, append_assoc}
use lib.ListN.{length, take, drop, set, length-append, length-set}
use lib.Seq.{paste, length-paste, take-paste, drop-paste, take-length, drop-drop, drop-cons, get_or-set_same, drop-set-lt}
use Rattle.fields.specs.Written.{put}

-- A copy of all the bytes is what is to be put.
pub paste_all : (buffer : List ℕ) (at : ℕ) (bytes : List ℕ) → paste buffer at bytes (length bytes) ≡ put buffer at bytes
unfolding put
paste_all buffer at bytes =
    ap (λ (bs : List ℕ). (take at buffer ++ bs) ++ drop (at + length bytes) buffer) (take-length bytes)
    ∙ append_assoc (take at buffer) bytes (drop (at + length bytes) buffer)

-- Bytes put behind bytes: where both fit, it is as if they were put together.
module _ (buffer : List ℕ) (at : ℕ) (first second : List ℕ) (room : at + length (first ++ second) ≤ length buffer) where
  both : length (first ++ second) ≡ length first + length second
  both = length-append first second

  -- what the first leaves, as a copy
  left : put buffer at first ≡ paste buffer at first (length first)
  left = sym (paste_all buffer at first)

  pub put-length : length (put buffer at first) ≡ length buffer
  put-length = rw left (length-paste buffer at first (length first) (omega (arith, both)) (omega (arith, both)))

  before-second : take (at + length first) (put buffer at first) ≡ take at buffer ++ first
  before-second =
      rw left (take-paste buffer at first (length first) (omega (arith, both)) (omega (arith, both))
      ∙ ap (λ (bs : List ℕ). take at buffer ++ bs) (take-length first))

  behind-second : drop (at + length first + length second) (put buffer at first)
      ≡ drop (at + length (first ++ second)) buffer
  behind-second =
      let sum : at + length first + length second ≡ at + length (first ++ second) = omega (arith, both) in
      rw left (sym (drop-drop (length second) (at + length first) (paste buffer at first (length first)))
      ∙ ap (drop (length second))
      (drop-paste buffer at first (length first) (omega (arith, both)) (omega (arith, both)))
      ∙ drop-drop (length second) (at + length first) buffer
      ∙ ap (λ (k : ℕ). drop k buffer) sum)

  pub put-put : put (put buffer at first) (at + length first) second ≡ put buffer at (first ++ second)
  unfolding put
  put-put =
      let rest = drop (at + length (first ++ second)) buffer in
      ap (λ (bs : List ℕ). bs ++ (second ++ drop (at + length first + length second) (put buffer at first)))
      before-second
      ∙ ap (λ (bs : List ℕ). (take at buffer ++ first) ++ (second ++ bs)) behind-second
      ∙ append_assoc (take at buffer) first (second ++ rest)
      ∙ ap (λ (bs : List ℕ). take at buffer ++ bs) (sym (append_assoc first second rest))

-- One store, at the front of what is kept.
pub store-front : (xs : List ℕ) (i v : ℕ) → i < length xs → drop i (set xs i v) ≡ v ∷ drop (i + 1) xs
store-front xs i v h =
    let k : i < length (set xs i v) = omega (arith, length-set xs i v) in
    drop-cons (set xs i v) i 0 k
    ∙ ap (λ (b : ℕ). b ∷ drop (suc i) (set xs i v)) (get_or-set_same xs i v 0 h)
    ∙ ap (λ (bs : List ℕ). v ∷ bs) (drop-set-lt (suc i) xs i v (omega arith))
    ∙ ap (λ (j : ℕ). v ∷ drop j xs) (sym (add-one i))
