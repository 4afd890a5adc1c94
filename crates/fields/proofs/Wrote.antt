-- Laws of bytes written one behind another, and how many bytes fields have. Assumes nothing.
use Prim.Native.Nat.{ℕ, suc, ◌+◌, ◌*◌, ◌≤◌, ◌<◌}
use native.Mathlib.Omega.{arith}
use native.Mathlib.Numerals.{add-one}
use mathlib.Core.Path.{◌≡◌, refl, sym, ◌∙◌, ap}
use mathlib.Core.List.{List, [], ◌∷◌, ◌++◌, append-nil}
use lib.ListN.{length, take, drop, get_or, set, length-append, take-append-drop}
use lib.Seq.{take_at, drop_at, set_split, length-take-le}
use Rattle.fields.specs.Fields.{field, fields}
use Rattle.fields.specs.Written.{put, Wrote, WroteIn}
use Rattle.fields.proofs.Buffers.{put-length, put-put}
use Rattle.fields.proofs.Decimals.{decimal-length}

pub wrote_nothing : {before : List ℕ} {at : ℕ} → at ≤ length before → Wrote [] before at before at
unfolding put
wrote_nothing {before} {at} room =
    let same : at + 0 ≡ at = omega arith in
    record { room = omega arith; buffer = sym (rw same (take-append-drop at before)); place = omega arith }

-- The buffer keeps its length.
pub wrote-length :
    {bs before after : List ℕ} {at next : ℕ} → Wrote bs before at after next → length after ≡ length before
wrote-length {bs} {before} {after} {at} w =
    ap length w.buffer ∙ put-length before at bs [] (rw append-nil w.room)

-- The next place by another name.
pub wrote-to :
    {bs before after : List ℕ} {at next : ℕ} (end : ℕ) → next ≡ end → Wrote bs before at after next
    → Wrote bs before at after end
wrote-to end e w = rw e at w

-- One store.
pub wrote-byte : (out : List ℕ) (at v : ℕ) → at < length out → Wrote (v ∷ []) out at (set out at v) (at + 1)
unfolding put
wrote-byte out at v l =
    record {
      room = omega arith;
      buffer = rw add-one (set_split out at v l);
      place = refl;
    }

-- The bytes stand where they were written.
pub wrote-there :
    {bs before after : List ℕ} {at : ℕ} (n : ℕ) → Wrote bs before at after (at + n) → take n (drop at after) ≡ bs
unfolding put
wrote-there {bs} {before} {after} {at} n w =
    let front = length-take-le at before (omega (arith, w.room)) in
    let size : length bs ≡ n = omega (arith, w.place) in
    let rest = drop (at + length bs) before in
    ap (λ (xs : List ℕ). take n (drop at xs)) w.buffer
    ∙ ap (take n) (drop_at (take at before) (bs ++ rest) at front)
    ∙ take_at bs rest n size

-- From the start: they stand there.
pub wrote-start : {bs before after : List ℕ} {next : ℕ} → Wrote bs before 0 after next → take next after ≡ bs
wrote-start {next = next} w = wrote-there next (wrote-to (0 + next) (omega arith) w)

-- Where there was room, the bytes were written; where there was none, nothing was.
pub wrote-all :
    {room : ℕ} {bs before after : List ℕ} {at next : ℕ} → at + room ≤ length before → Wrote bs before at after next
    → WroteIn room bs before at after next
wrote-all l w = record { fits = λ _. w; full = λ s. absurd (omega arith) }

pub wrote_none :
    {room : ℕ} {bs before : List ℕ} {at : ℕ} → length before < at + room → WroteIn room bs before at before at
wrote_none {room} {bs} {before} {at} s = record { fits = λ l. absurd (omega arith); full = λ _. (refl, refl) }

-- Bytes written behind bytes: as if they were written together.
pub wrote_then :
    {first second before middle after : List ℕ} {at next end : ℕ} → Wrote first before at middle next
    → Wrote second middle next after end → Wrote (first ++ second) before at after end
wrote_then {first} {second} {before} {middle} {after} {at} {next} {end} v w =
    let long = length-append first second in
    let same = wrote-length v in
    let fit : at + length (first ++ second) ≤ length before = omega (arith, v.place, w.room) in
    let whole = rw (v.buffer, v.place) at w.buffer ∙ put-put before at first second fit in
    record { room = fit; buffer = whole; place = omega (arith, v.place, w.place) }

-- A space and at most 10 digits.
pub field-length : (n : ℕ) → n < 4294967296 → length (field n) ≤ 11
unfolding field
field-length n l = omega (arith, decimal-length 9 n (omega arith))

pub fields-length : (ns : List ℕ) → ((i : ℕ) → get_or ns i 0 < 4294967296) → length (fields ns) ≤ 11 * length ns
unfolding fields
fields-length [] l = omega arith
fields-length (n ∷ ns) l =
    omega (arith, length-append (field n) (fields ns), field-length n (l 0), fields-length ns (λ i. l (suc i)))
