-- From how a save or a load ended to how many bytes it wrote. Assumes nothing.
use Prim.Native.Nat.{ℕ, ◌≤◌}
use native.Mathlib.Omega.{arith}
use mathlib.Core.Path.{◌≡◌, sym, subst}
use mathlib.Core.List.{List}
use lib.ListN.{length, take, drop, length-append}
use Rattle.table.specs.declared.Table.{Table}
use Rattle.calls.specs.Answers.{ListAnswer}
use Rattle.calls.specs.Ends as contract
use Rattle.calls.specs.Ends.{SaveEnds}
use Rattle.fields.proofs.Wrote.{wrote-start, wrote-length}
use Rattle.sheet_label_lines.specs.LabelLines.{LABELS_ROOM}
use Rattle.file_lines.specs.Loads.{LoadPrints, LoadWrites, short, printed}
use Rattle.program_io.specs.Told.{Writes}
use Rattle.program_files.specs.Saves.{count_of}

-- What a save counts lies within the buffer.
saved-within :
    (t : Table) (before after : List ℕ) (x : ListAnswer) → SaveEnds t before x after → count_of x ≤ length after
saved-within t before after x (contract.unsound n) = omega arith
saved-within t before after x (contract.refused f S e) = omega arith
saved-within t before after x (contract.short M bs S e A i l) = omega arith
saved-within t before after x (contract.accepted M bs S e A i l) =
    omega (arith, length-append bs (drop (length bs) before))

pub saved-count :
    {t : Table} {before after : List ℕ} {x : ListAnswer} {n : ℕ} → SaveEnds t before x after → n ≡ count_of x
    → n ≤ length after
saved-count {t} {before} {after} {x} s e = omega (arith, e, saved-within t before after x s)

-- So does what a load counts, and with room for every line it is what is printed.
lines-in :
    (file before after : List ℕ) (x : ListAnswer) → LoadWrites file before x after → LABELS_ROOM ≤ length before
    → (count_of x ≤ length after) × LoadPrints file (take (count_of x) after)
lines-in file before after x (short l) room = absurd (omega (arith, l, room))
lines-in file before after x (printed l p w) room =
    (omega (arith, w.room, w.place, wrote-length w), subst (LoadPrints file) (sym (wrote-start w)) p)

pub lines-counted :
    {file before after : List ℕ} {x : ListAnswer} {n : ℕ} → LoadWrites file before x after → LABELS_ROOM ≤ length before
    → n ≡ count_of x → (n ≤ length after) × LoadPrints file (take n after)
lines-counted {file} {before} {after} {x} {n} w room e =
    let counted = lines-in file before after x w room in
    (omega (arith, e, counted.0), subst (λ (k : ℕ). LoadPrints file (take k after)) (sym e) counted.1)

-- Nothing was shown before.
pub writes-first :
    {bytes : List ℕ} {shown₀ shown lost : ℕ} → Writes bytes shown₀ shown lost → shown₀ ≡ 0 → Writes bytes 0 shown lost
writes-first {bytes} {shown = shown} {lost = lost} w e = subst (λ (n : ℕ). Writes bytes n shown lost) e w
