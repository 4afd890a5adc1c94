-- Laws of `Reads`: what the bytes of a sheet print, part by part. Assumes nothing.
use Prim.Native.Nat.{ℕ, zero, suc, ◌≤◌, ◌<◌}
use native.Mathlib.Omega.{arith}
use mathlib.Core.Path.{◌≡◌, refl}
use mathlib.Core.Bool.{Bool, true, false}
use mathlib.Core.List.{List, [], ◌∷◌, ◌++◌, append-nil}
use lib.Dec.{eqb}
use lib.ListN.{length, take, get_or}
use lib.Seq.{take-suc, append_snoc}
use borrow.Author.Tests.{eqb-true, eqb-false}
use Rattle.table.specs.declared.Table.{Table}
use Rattle.places.specs.Places.{leading}
use Rattle.sheet_meaning.specs.Lines.{Prints}
use Rattle.fields.specs.Texts.{NEWLINE}
use Rattle.sheet_meaning.specs.Sheets.{State, longer, ended, Reads, stop, byte, newline}
use Rattle.sheet_scanner.specs.Scans.{line_end}

-- Bytes of the line at hand, and then others.
module _ {v : State} {rest out : List ℕ} where
  reads-into :
      (s : State) (k : ℕ) (bs : List ℕ) → k ≤ line_end bs → Reads (longer s (take k bs)) rest out v
      → Reads s (take k bs ++ rest) out v
  unfolding leading
  reads-into s zero bs l r = rw append-nil at r
  reads-into s (suc k) [] l r = absurd (omega arith)
  reads-into s (suc k) (b ∷ bs) l r =
      go (eqb b NEWLINE) refl
      (λ m. reads-into (longer s (b ∷ [])) k bs m (rw (append_snoc s.line b (take k bs)) r))
    where
      go : (t : Bool) → eqb b NEWLINE ≡ t
          → (k ≤ line_end bs → Reads (longer s (b ∷ [])) (take k bs ++ rest) out v)
          → Reads s (b ∷ (take k bs ++ rest)) out v
      go true t more = absurd (omega (arith, rw t at l))
      go false t more = byte (eqb-false b NEWLINE t) (more (omega (arith, rw t at l)))

-- The part of a line that a piece ends with.
pub reads-part : (s : State) (k : ℕ) (bs : List ℕ) → k ≤ line_end bs → Reads s (take k bs) [] (longer s (take k bs))
reads-part s k bs l = rw append-nil at (reads-into s k bs l stop)

pub at-end : (bs : List ℕ) → line_end bs < length bs → get_or bs (line_end bs) 0 ≡ NEWLINE
unfolding leading
at-end [] l = absurd (omega arith)
at-end (b ∷ bs) l = go (eqb b NEWLINE) refl (at-end bs)
  where
    go : (t : Bool) → eqb b NEWLINE ≡ t → (line_end bs < length bs → get_or bs (line_end bs) 0 ≡ NEWLINE)
        → get_or (b ∷ bs) (line_end (b ∷ bs)) 0 ≡ NEWLINE
    go true t more = rw t (eqb-true b NEWLINE t)
    go false t more = rw t (more (omega (arith, rw t at l)))

-- The rest of a line, and its newline.
pub reads-line :
    (s : State) (k : ℕ) (bs : List ℕ) {printed : List ℕ} {u : Table} → k ≡ line_end bs → k < length bs
    → Prints s.table s.number (s.line ++ take k bs) printed u
    → Reads s (take (suc k) bs) printed (ended (longer s (take k bs)) u)
reads-line s k bs e l p =
    let here : get_or bs k 0 ≡ NEWLINE = rw e (at-end bs (omega arith)) in
    rw (take-suc bs k 0 l, here) (reads-into s k bs (omega arith) (rw append-nil at (newline p stop)))
