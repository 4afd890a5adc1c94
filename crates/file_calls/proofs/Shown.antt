-- What request #103 asks to be shown of saving and loading, and that one changed byte is found. Assumes nothing.
use Rattle.std.specs.Prelude.{Ok, Err}
use Prim.Native.Nat.{ℕ, ◌<◌}
use native.Mathlib.Omega.{arith}
use mathlib.Core.Path.{◌≡◌, refl, sym, ◌∙◌, ap, subst}
use mathlib.Core.Bool.{true}
use mathlib.Core.Logic.{◌↔◌}
use mathlib.Core.List.{List}
use mathlib.Core.Option.{none}
use lib.Dec.{ltb}
use lib.ListN.{length, get_or, take, drop, set}
use lib.Seq.{take_at}
use Rattle.theory.specs.Lists.{every}
use Rattle.theory.specs.Questions.{first_no}
use Rattle.theory.specs.Limits.{document}
use Rattle.table.specs.declared.Table.{Table}
use Rattle.table.specs.Clean.{empty_table}
use Rattle.table.specs.Sound.{Sound}
use Rattle.file_blocks.specs.Words.{BYTE}
use Rattle.file_blocks.specs.Files.{file_of}
use Rattle.file_blocks.specs.Questions.{file_questions}
use Rattle.file_blocks.proofs.RoundTrips.{file-accepted, file-pages, pages-file}
use Rattle.file_blocks.proofs.Damage.{one-byte-17}
use Rattle.refusals.specs.declared.Refusal.TheVariants.{WrongChecksum}
use Rattle.calls.specs.Answers.{ListAnswer, ChangeAnswer}
use Rattle.calls.specs.Ends as contract
use Rattle.calls.specs.Ends.{held, Sized, SaveEnds, LoadEnds}
use Rattle.calls.proofs.Determined.{load-determined}
use Rattle.file_calls.proofs.Built.{built, built-held, built-sized, built-sound}

-- Numbers that are bytes.
abbrev pub AreBytes : List ℕ → Type 0
AreBytes bs = every (λ b. ltb b BYTE) bs ≡ true

-- What saving wrote: the bytes counted are the table's file.
pub saved-file :
    {t : Table} {before after : List ℕ} {x : ListAnswer} → SaveEnds t before x after → (n : ℕ) → x ≡ Ok n
    → take n after ≡ file_of (held t)
saved-file (contract.unsound f) n e = (let z : ◌≡◌ {A = ℕ} 0 1 = cc in absurd (omega arith))
saved-file (contract.refused f S q) n e = (let z : ◌≡◌ {A = ℕ} 0 1 = cc in absurd (omega arith))
saved-file (contract.short M xs S q A i l) n e = (let z : ◌≡◌ {A = ℕ} 0 1 = cc in absurd (omega arith))
saved-file {t} {before} (contract.accepted M xs S q A i l) n e =
    let same : length xs ≡ n = cc in
    take_at xs (drop (length xs) before) n same ∙ i

-- Loading the file of a sound table gives that table, every field. The idea: the file passes 16 to 19 and its pages are
-- the table's (`file-accepted`, `file-pages`), and a sound table of given pages is one, since its slots keep what
-- the rules ask for (`load-determined`).
pub load-file :
    (t : Table) → Sized t → Sound t → (x : ChangeAnswer) (u : Table) → LoadEnds (file_of (held t)) x u
    → (x ≡ Ok tt) × (u ≡ t)
load-file t Z S x u E =
    load-determined (file_of (held t)) x (Ok tt) u t E
    (contract.accepted t (file-accepted (held t) S.rules) Z (sym (file-pages (held t) S.rules)) S)

-- So does loading the bytes that saving wrote, as many as it answered.
pub load-saved :
    (t : Table) → Sized t → Sound t → (before after : List ℕ) (n : ℕ) → SaveEnds t before (Ok n) after
    → (x : ChangeAnswer) (u : Table) → LoadEnds (take n after) x u → (x ≡ Ok tt) × (u ≡ t)
load-saved t Z S before after n E x u L =
    load-file t Z S x u (subst (λ (bs : List ℕ). LoadEnds bs x u) (saved-file E n refl) L)

-- Each accepted file is, byte for byte, the one that its table saves: so a table has one file, and no two accepted files
-- give the same table. The idea: whatever a block could hold besides its records is asked to be zero, and records ascend
-- by slot, so the records leave no byte free (`pages-file`).
pub loaded-file :
    {bs : List ℕ} {x : ChangeAnswer} {u : Table} → AreBytes bs → LoadEnds bs x u → x ≡ Ok tt → file_of (held u) ≡ bs
loaded-file b (contract.refused f q) e = (let z : ◌≡◌ {A = ℕ} 0 1 = cc in absurd (omega arith))
loaded-file {bs} b (contract.accepted u q Z h S) e = ap file_of h ∙ pages-file bs b q

-- Saving what was loaded writes the bytes that were loaded.
pub loaded-saves :
    (bs : List ℕ) → AreBytes bs → (u : Table) → LoadEnds bs (Ok tt) u → (before after : List ℕ) (n : ℕ)
    → SaveEnds u before (Ok n) after → take n after ≡ bs
loaded-saves bs b u L before after n E = saved-file E n refl ∙ loaded-file b L refl

-- A file is accepted exactly if it is the file of some sound table. The idea: the rules of an accepted file have no loop
-- through a negation, so they have a sound table (`built`).
pub accepted-file :
    (bs : List ℕ) → AreBytes bs
    → (first_no (file_questions document bs) ≡ none) ↔ ((t : Table) × Sized t × Sound t × (bs ≡ file_of (held t)))
accepted-file bs b = (
  λ q. (built bs q, built-sized bs q, built-sound bs q, sym (ap file_of (built-held bs q) ∙ pages-file bs b q)),
  λ w. subst (λ (cs : List ℕ). first_no (file_questions document cs) ≡ none) (sym w.3)
      (file-accepted (held w.0) w.2.rules),
)

-- A saved file with any one byte changed is refused by 17, and the empty table is handed back. The idea: a byte of the
-- body moves A by less than 256, and a byte of the sums moves the sum that stands there, while the other side stays.
pub changed-byte :
    (t : Table) → Sound t → (i b : ℕ) → i < length (file_of (held t)) → b < BYTE → (b ≡ get_or (file_of (held t)) i 0 → ⊥)
    → (x : ChangeAnswer) (u : Table) → LoadEnds (set (file_of (held t)) i b) x u
    → (x ≡ Err WrongChecksum) × (u ≡ empty_table)
changed-byte t S i b l k n x u E =
    load-determined (set (file_of (held t)) i b) x (Err WrongChecksum) u empty_table E
    (contract.refused WrongChecksum (one-byte-17 (held t) S.rules i b l k n))
