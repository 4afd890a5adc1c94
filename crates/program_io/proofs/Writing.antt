-- Bytes handed to standard output, one list behind another. Assumes nothing.
use Prim.Native.Nat.{ℕ, ◌+◌, ◌-◌, ◌≤◌}
use native.Mathlib.Omega.{arith}
use mathlib.Core.Path.{◌≡◌, refl, sym, ◌∙◌, ap, subst}
use mathlib.Core.Bool.{Bool, true, false, not}
use mathlib.Core.List.{List, [], ◌++◌, append-nil, append_assoc}
use lib.ListN.{length, take, length-append}
use lib.Seq.{length-take-le, take-length, take-nil, take-append-add}
use Rattle.program_io.specs.Told.{Shown, shown_more, shown_failed, shown_of, Writes}

apart : true ≡ false → ⊥
apart e = let z : ◌≡◌ {A = ℕ} 0 1 = cc in omega arith

pub first_part : (n : ℕ) (xs : List ℕ) → n ≤ length xs → n ≡ length (take n xs)
first_part n xs l = sym (length-take-le n xs l)

-- Nothing was handed.
pub writes-none : (shown lost : ℕ) → lost ≡ 0 → Writes [] shown shown lost
writes-none shown lost e =
    record {
      count = omega (arith, e);
      few = omega (arith, e);
      shows = λ before s. subst (λ (xs : List ℕ). Shown xs shown lost)
          (sym (ap (λ (xs : List ℕ). before ++ xs) (take-nil (0 - lost)) ∙ append-nil before))
          (subst (Shown before shown) (sym e) s);
    }

-- All were written.
pub writes-all : (bytes : List ℕ) (shown lost : ℕ) → lost ≡ 0 → Writes bytes shown (shown + length bytes) lost
writes-all bytes shown lost e =
    let all : take (length bytes - lost) bytes ≡ bytes =
    let n : length bytes - lost ≡ length bytes = omega (arith, e) in
    ap (λ (k : ℕ). take k bytes) n ∙ take-length bytes in
    record {
      count = omega (arith, e);
      few = omega (arith, e);
      shows = λ before s. subst (λ (xs : List ℕ). Shown (before ++ xs) (shown + length bytes) lost) (sym all)
          (subst (Shown (before ++ bytes) (shown + length bytes)) (sym e) (shown_more bytes s));
    }

-- The write failed.
pub writes-failed : (bytes : List ℕ) (shown lost : ℕ) → lost ≡ length bytes → Writes bytes shown shown lost
writes-failed bytes shown lost e =
    let n : length bytes - lost ≡ 0 = omega (arith, e) in
    let nothing : take (length bytes - lost) bytes ≡ [] = ap (λ (k : ℕ). take k bytes) n in
    record {
      count = omega (arith, e);
      few = omega (arith, e);
      shows = λ before s. subst (λ (xs : List ℕ). Shown xs shown lost)
          (sym (ap (λ (xs : List ℕ). before ++ xs) nothing ∙ append-nil before)) (shown_failed lost s);
    }

-- Bytes behind bytes, of which none were lost.
pub writes_then :
    {xs ys : List ℕ} {s t u lost₀ lost : ℕ} → Writes xs s t lost₀ → lost₀ ≡ 0 → Writes ys t u lost
    → Writes (xs ++ ys) s u lost
writes_then {xs} {ys} {s} {t} {u} {lost₀} {lost} w e v =
    let long = length-append xs ys in
    let first : take (length xs - lost₀) xs ≡ xs =
    let n : length xs - lost₀ ≡ length xs = omega (arith, e) in
    ap (λ (k : ℕ). take k xs) n ∙ take-length xs in
    let most : length xs + (length ys - lost) ≡ length (xs ++ ys) - lost = omega (arith, long, v.few) in
    let both : xs ++ take (length ys - lost) ys ≡ take (length (xs ++ ys) - lost) (xs ++ ys) =
    sym (take-append-add xs ys (length ys - lost))
    ∙ ap (λ (k : ℕ). take k (xs ++ ys)) most in
    record {
      count = omega (arith, e, w.count, v.count, long);
      few = omega (arith, v.few, long);
      shows = λ before h.
          let one : Shown (before ++ xs) t 0 =
          subst (λ (zs : List ℕ). Shown (before ++ zs) t 0) first
          (subst (Shown (before ++ take (length xs - lost₀) xs) t) e (w.shows before h)) in
          subst (λ (zs : List ℕ). Shown zs u lost)
          (append_assoc before xs (take (length ys - lost) ys) ∙ ap (λ (zs : List ℕ). before ++ zs) both)
          (v.shows (before ++ xs) one);
    }

-- What is shown of two lists, one behind the other.
pub shown-append :
    (showing : Bool) (xs ys : List ℕ) → shown_of showing xs ++ shown_of showing ys ≡ shown_of showing (xs ++ ys)
shown-append true xs ys = refl
shown-append false xs ys = refl

pub shown-nil : (showing : Bool) → shown_of showing [] ≡ []
shown-nil true = refl
shown-nil false = refl

-- Where nothing is to be shown nothing is handed; else all is.
pub shows-none :
    (showing : Bool) (bytes : List ℕ) (shown lost : ℕ) → not showing ≡ true → lost ≡ 0
    → Writes (shown_of showing bytes) shown shown lost
shows-none true bytes shown lost off e = absurd (apart (sym off))
shows-none false bytes shown lost off e = writes-none shown lost e

pub shows-all :
    (showing : Bool) (bytes : List ℕ) {shown₀ shown lost : ℕ} → not showing ≡ false → Writes bytes shown₀ shown lost
    → Writes (shown_of showing bytes) shown₀ shown lost
shows-all true bytes on w = w
shows-all false bytes on w = absurd (apart on)
