-- A buffer that is read into behind what was read before. Assumes nothing.
use Prim.Native.Nat.{ℕ, ◌+◌, ◌-◌, ◌≤◌, ◌<◌}
use native.Mathlib.Omega.{arith}
use mathlib.Core.Path.{◌≡◌, refl, sym, ◌∙◌, ap, subst}
use mathlib.Core.List.{List, ◌++◌}
use lib.ListN.{length, take, drop, length-take, length-drop}
use lib.Seq.{take-add, take-append-le, drop_at, length-take-le}
use borrow.Rule.Slice.PartMut.{mid_of, post_of, put_mid, same_len_mid, take_put}
use Rattle.std.specs.Prelude.{Result, Ok, Err}
use Rattle.std.specs.Result.{result_unwrap_or}
use Rattle.std.specs.Io.{ReadsAtMost}
use Rattle.program_io.specs.Told.{Given, given_more}
use Rattle.program_io.specs.Reads.{ReadsPart, ReadsOn}

-- How many bytes a read got that may have failed: those stand in the buffer.
pub got-inside : {E : Type 0} (r : Result ℕ E) (part : List ℕ) → ReadsAtMost r part → result_unwrap_or r 0 ≤ length part
got-inside (Ok n) part most = omega (arith, most)
got-inside (Err e) part most = omega arith

-- What a read got was given.
pub part-given :
    (part : List ℕ) {read₀ got₀ : ℕ} (got : ℕ) → got ≤ length part → 0 < got₀
    → ReadsPart part read₀ got₀ (read₀ + got) got
part-given part {read₀} {got₀} got inside some =
    let size = length-take-le got part inside in
    record {
      inside = inside;
      count = refl;
      gives = λ bytes g. subst (λ (n : ℕ). Given (bytes ++ take got part) (read₀ + n) n) size
          (given_more (take got part) g some);
    }

-- A read into the part behind what was read before.
pub reads-behind :
    (before part : List ℕ) {got₀ read got : ℕ} (read₀ k : ℕ) → read₀ ≤ length before
    → length part ≡ length (mid_of read₀ k before) → ReadsPart part read₀ got₀ read got
    → ReadsOn before read₀ got₀ (put_mid read₀ k before part) read got
reads-behind before part {got₀} {read} {got} read₀ k here same r =
    let put = put_mid read₀ k before part in
    let kept = take_put read₀ k before part here in
    let behind : drop read₀ put ≡ part ++ post_of read₀ k before =
    drop_at (take read₀ before) (part ++ post_of read₀ k before) read₀ (length-take-le read₀ before here) in
    let piece : take got (drop read₀ put) ≡ take got part =
    ap (take got) behind ∙ take-append-le got part (post_of read₀ k before) r.inside in
    let all : take read₀ before ++ take got part ≡ take read put =
    sym
    (ap (λ (xs : List ℕ). xs ++ take got (drop read₀ put)) kept ∙ ap (λ (xs : List ℕ). take read₀ before ++ xs) piece)
    ∙ sym (take-add read₀ got put) ∙ ap (λ (n : ℕ). take n put) (sym r.count) in
    record {
      stay = kept;
      inside =
          omega
          (arith, r.inside, r.count, same, here, size read₀ k before, same_len_mid read₀ k before part same);
      count = r.count;
      gives = λ g. subst (λ (xs : List ℕ). Given xs read got) all (r.gives (take read₀ before) g);
    }
  where
    size : (a k : ℕ) (xs : List ℕ) → length (mid_of a k xs) ≤ length xs - a
    size a k xs = omega (arith, length-take k (drop a xs), length-drop a xs)
