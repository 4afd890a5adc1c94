-- The bytes that are held of a line tell what it is. Assumes nothing.
use Prim.Native.Nat.{ℕ, suc, ◌+◌, ◌-◌, ◌^◌, ◌≤◌, ◌<◌, min}
use native.Mathlib.Omega.{arith}
use native.Mathlib.Decide.{dec_le}
use mathlib.Core.Path.{◌≡◌, refl, sym, ◌∙◌, ap, subst}
use mathlib.Core.Logic.{◌⊎◌, inl, inr}
use mathlib.Core.List.{List, [], ◌∷◌, ◌++◌, append-nil}
use lib.ListN.{length, take, length-append}
use lib.Seq.{take_all, take-append-le, take-append-add, length-take-le}
use mir.Val.{Val}
use denote.Struct.Declared.{row}
use denote.Laws.{Is}
use Rattle.places.specs.declared.Place.{Place}
use Rattle.places.specs.Places.{line_after, Onward}
use Rattle.sheet_lines.specs.declared.Parsed.{Parsed}
use Rattle.sheet_lines.specs.Readings.{Line, reading, Answers}
use Rattle.sheet_lines.proofs.Cut.{reading-cut}
use Rattle.sheet_begun.specs.declared.Begun.{Begun}
use Rattle.sheet_begun.specs.Begun.{ENOUGH, BegunOf, Longer, ReadsAs}
use Rattle.sheet_begun.specs.contracts.Begun as begun-type

-- The first k bytes of a longer line: those that there were, and as many of the others as there is room for.
take-longer :
    (k : ℕ) (xs bytes : List ℕ) (i : ℕ) → i ≤ length bytes → length (take k xs) + i ≤ k
    → (i ≡ length bytes) ⊎ (length (take k xs) + i ≡ k) → take k xs ++ take i bytes ≡ take k (xs ++ bytes)
take-longer k xs bytes i l m over = go (dec_le (length xs) k) over
  where
    go : Dec (length xs ≤ k) → (i ≡ length bytes) ⊎ (length (take k xs) + i ≡ k)
        → take k xs ++ take i bytes ≡ take k (xs ++ bytes)
    go (yes s) (inl e) =
        let whole = take_all k xs s in
        let fit : length (xs ++ bytes) ≤ k = omega (arith, length-append xs bytes, ap length whole) in
        rw (whole, take_all i bytes (omega arith), take_all k (xs ++ bytes) fit)
    go (yes s) (inr e) =
        let whole = take_all k xs s in
        let room : k ≡ length xs + i = omega (arith, ap length whole) in
        rw whole (sym (ap (λ (n : ℕ). take n (xs ++ bytes)) room ∙ take-append-add xs bytes i))
    go (no s) e =
        let none : i ≡ 0 = omega (arith, length-take-le k xs (omega arith)) in
        rw (none, append-nil) (sym (take-append-le k xs bytes (omega arith)))

-- As many bytes as there is room for are all, or fill the array.
all-or-full : (held i n : ℕ) → held ≤ ENOUGH → i ≡ min n (ENOUGH - held) → (i ≡ n) ⊎ (held + i ≡ ENOUGH)
all-or-full held i n l e = go (dec_le n (ENOUGH - held))
  where
    go : Dec (n ≤ ENOUGH - held) → (i ≡ n) ⊎ (held + i ≡ ENOUGH)
    go (yes m) = inl (omega arith)
    go (no m) = inr (omega arith)

-- A length counts as far as the array goes.
pub take_within : (n : ℕ) (xs : List ℕ) → length xs ≡ ENOUGH → take (min n ENOUGH) xs ≡ take n xs
take_within n xs long = go (dec_le n ENOUGH)
  where
    go : Dec (n ≤ ENOUGH) → take (min n ENOUGH) xs ≡ take n xs
    go (yes l) = let e : min n ENOUGH ≡ n = omega arith in rw e
    go (no l) =
        let e : min n ENOUGH ≡ ENOUGH = omega arith in
        rw e (take_all ENOUGH xs (omega arith) ∙ sym (take_all n xs (omega arith)))

-- The array of the line at hand has 121 bytes.
pub begun_sized : (k : Begun) (vs : List Val) → Is (row begun-type.the_type) k vs → length k.bytes ≡ ENOUGH
begun_sized k vs p = p.1.1.1.0.1.0.1

-- Every line at hand that the code can have stands for a line: so no contract on it is silent.
pub begun-of-some :
    (k : Begun) → length k.bytes ≡ ENOUGH → BegunOf k.number (take (min k.length ENOUGH) k.bytes) k
begun-of-some k long =
    let few : min k.length ENOUGH ≤ ENOUGH = omega arith in
    let size = length-take-le (min k.length ENOUGH) k.bytes (omega (arith, long)) in
    record {
      number = refl;
      bytes =
          sym (take_within k.length k.bytes long)
          ∙ sym (take_all ENOUGH (take (min k.length ENOUGH) k.bytes) (omega (arith, size)));
    }

-- No byte of the next line is held yet.
pub begun-next :
    {n : ℕ} (k : Begun) {r : Begun} {m : ℕ} → r ≡ record { number = line_after m; bytes = k.bytes; length = 0 } → m ≡ n
    → n + 1 < 2 ^ 32 → BegunOf (suc n) [] r
begun-next {n} k e f small =
    let counted : line_after n ≡ suc n = omega arith in
    record {
      number = ap (λ (x : Begun). x.number) e ∙ ap line_after f ∙ counted;
      bytes = ap (λ (x : Begun). take x.length x.bytes) e;
    }

-- A line that got longer, by as many bytes as there is room for.
pub longer-held :
    (k : Begun) {r : Begun} {held : ℕ} (bytes : List ℕ) (i : ℕ) → length k.bytes ≡ ENOUGH
    → held ≡ min k.length ENOUGH → i ≡ min (length bytes) (ENOUGH - held) → r.number ≡ k.number
    → take r.length r.bytes ≡ take held k.bytes ++ take i bytes → Longer k bytes r
longer-held k {r} {held} bytes i long same many number line n xs f =
    let cut =
    ap (λ (j : ℕ). take j k.bytes) same ∙ take_within k.length k.bytes long ∙ f.bytes in
    let held : length (take ENOUGH xs) ≡ held =
    sym (ap length cut) ∙ length-take-le held k.bytes (omega (arith, same)) in
    let full : (i ≡ length bytes) ⊎ (length (take ENOUGH xs) + i ≡ ENOUGH) =
    all-or-full (length (take ENOUGH xs)) i (length bytes) (omega (arith, held, same))
    (many ∙ ap (λ (j : ℕ). min (length bytes) (ENOUGH - j)) (sym held)) in
    record {
      number = number ∙ f.number;
      bytes =
          line ∙ ap (λ (ys : List ℕ). ys ++ take i bytes) cut
          ∙ take-longer ENOUGH xs bytes i (omega arith) (omega (arith, held, same)) full;
    }

as_line : {x y : Line} {p : Parsed} → x ≡ y → Answers x p → Answers y p
as_line {p = p} e a = subst (λ (l : Line). Answers l p) e a

-- What is held is read from its start, and that tells what the line is.
held-reading :
    {n : ℕ} {k : Begun} {p : Parsed} (line : List ℕ) → length k.bytes ≡ ENOUGH → BegunOf n line k
    → Answers (reading (take (min k.length ENOUGH) k.bytes)) p → Answers (reading line) p
held-reading {k = k} line long f a =
    as_line
    (ap reading (take_within k.length k.bytes long ∙ f.bytes) ∙ reading-cut ENOUGH line (omega arith)) a

pub reads_held :
    {k : Begun} {i : ℕ} {p : Parsed} {from : Place} {bytes : List ℕ} → length k.bytes ≡ ENOUGH
    → i ≡ min k.length ENOUGH
    → Answers (reading (take i k.bytes)) p → Onward bytes from p.place → from.line ≡ k.number → ReadsAs k [] p
reads_held {k} {p = p} long same a onward e =
    record {
      number = onward.same_line ∙ e;
      within = a.within;
      answers = λ n line f.
          rw append-nil
          (held-reading line long f (as_line (ap (λ (j : ℕ). reading (take j k.bytes)) same) a));
    }

-- No byte is held of a line that has none.
no_bytes : (line : List ℕ) → take ENOUGH line ≡ [] → line ≡ []
no_bytes [] e = refl
no_bytes (b ∷ bs) e = absurd (omega (arith, ap length e))

-- A line that lies whole in the bytes behind it; and one of which a part was held.
pub reads_whole :
    {k : Begun} {p : Parsed} {from : Place} (bytes : List ℕ) → k.length ≡ 0 → Answers (reading bytes) p
    → Onward bytes from p.place → from.line ≡ k.number → ReadsAs k bytes p
reads_whole {k} {p} bytes none a onward e =
    record {
      number = onward.same_line ∙ e;
      within = a.within;
      answers = λ n line f.
          let empty = no_bytes line (sym f.bytes ∙ ap (λ (i : ℕ). take i k.bytes) none) in
          rw empty a;
    }

pub reads-longer :
    {k r : Begun} {p : Parsed} {bytes : List ℕ} → r.number ≡ k.number → Longer k bytes r → ReadsAs r [] p
    → ReadsAs k bytes p
reads-longer {k} {r} {p} {bytes} e keeps h =
    record {
      number = h.number ∙ e;
      within = h.within;
      answers = λ n line f. rw append-nil at (h.answers n (line ++ bytes) (keeps n line f));
    }
