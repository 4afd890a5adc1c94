-- Laws of an answer. Assumes nothing.
use Prim.Native.Nat.{ℕ, zero, suc, ◌+◌, ◌-◌, ◌≤◌, ◌<◌}
use native.Mathlib.Omega.{arith}
use native.Mathlib.Decide.{dec_le}
use native.Mathlib.Nat.{zero-add, sub-zero, zero-sub, suc-sub-suc}
use mathlib.Core.Path.{◌≡◌, refl, sym, ◌∙◌, ap}
use mathlib.Core.Bool.{Bool, true, false}
use mathlib.Core.List.{List, [], ◌∷◌, ◌++◌, append_assoc}
use mathlib.Core.Option as math
use Rattle.std.specs.Prelude.{Option}
use lib.ListN.{length, take, drop, replicate, length-replicate, length-append, drop_of_length-le}
use lib.Seq.{sets, sets-eq, take-append_seam, drop-append_seam, drop-append-add}
use borrow.Author.Tests.{le-leb, lt-leb, lt-ltb, le-ltb}
use Rattle.tokens.specs.Tokens.{pieces, filled, tokens, one}
use Rattle.sheet_lines.specs.Commands as spec
use Rattle.sheet_lines.specs.Commands.{after, made, command}
use Rattle.sheet_lines.specs.Readings.{LINE, TOKENS, spaces, blank}
use Rattle.sheet_lines.specs.Readings.{Line, is_blank, too_long, no_command, is, whether}
use Rattle.sheet_lines.specs.Readings.{reading, positives_of, negatives_of, Answers}
use Rattle.tokens.specs.Parts.{first_of, rest_of, empty, as_option}
use Rattle.sheet_lines.specs.Parts.{leading_numbers, past_numbers, IsCommandFor, OfRule, rule_command}
use Rattle.places.specs.Places.{is_space}
use Rattle.places.specs.declared.Place.{Place}
use Rattle.sheet_lines.specs.declared.Command.{Command}
use Rattle.sheet_lines.specs.declared.Reading.TheVariants as of
use Rattle.sheet_lines.specs.declared.Parsed.{Parsed}
use Rattle.tokens.proofs.Tokens.{empty-onto}
use Rattle.sheet_lines.proofs.Commands.{numerals-all, numerals-none, over, parted, spoiled}

-- An answer for what a line was read as is one for what it is.
pub as_read : {l m : Line} {r : Parsed} → Answers l r → l ≡ m → Answers m r
as_read a e =
    record {
      meaning = a.meaning ∙ e;
      positives = a.positives ∙ ap (λ (l : Line). length (positives_of l)) e;
      negatives = a.negatives ∙ ap (λ (l : Line). length (negatives_of l)) e;
      within = a.within;
      filler = a.filler;
    }

-- A number that was found, or none, is what a form has after its sign.
pub made-read : (f : ℕ → spec.Command) {o p : Option ℕ} {n : math.Option ℕ} {r : Parsed} → as_option o ≡ n → o ≡ p
    → Answers (whether (made f (as_option p))) r → Answers (whether (made f n)) r
made-read f e g a =
    as_read a (sym (ap (λ (q : Option ℕ). whether (made f (as_option q))) g) ∙ ap (λ (m : math.Option ℕ). whether (made f m)) e)

-- What the lists of a rule are, by where the numbers end.
module _ (f : ℕ → List ℕ → List ℕ → spec.Command) (h : ℕ) (ts : List (List ℕ)) where
  abbrev said : Line
  said = whether (rule_command f h ts)

  pub said-over : empty (past_numbers ts) ≡ true → is (f h (leading_numbers ts) []) ≡ said
  said-over e = let w = over ts e in rw (w.positives, w.negatives)

  pub said-spoiled : empty (past_numbers ts) ≡ false → one 33 (first_of (past_numbers ts)) ≡ false → no_command ≡ said
  said-spoiled e g = rw (spoiled ts e g)

  module _ (bang : one 33 (first_of (past_numbers ts)) ≡ true) where
    pub said-parted : empty (past_numbers (rest_of (past_numbers ts))) ≡ true
        → is (f h (leading_numbers ts) (leading_numbers (rest_of (past_numbers ts)))) ≡ said
    said-parted e =
        let w = parted ts bang in
        rw (w.positives, w.negatives, numerals-all (rest_of (past_numbers ts)) e)

    pub said-parted-spoiled : empty (past_numbers (rest_of (past_numbers ts))) ≡ false → no_command ≡ said
    said-parted-spoiled e =
        let w = parted ts bang in
        rw (w.positives, w.negatives, numerals-none (rest_of (past_numbers ts)) e)

-- Numbers stored at the start of zeros, and more behind them: the lists, then zeros.

abbrev zeros : ℕ → List ℕ
zeros n = replicate n 0

drop-zeros : (k n : ℕ) → drop k (zeros n) ≡ zeros (n - k)
drop-zeros zero n = rw sub-zero
drop-zeros (suc k) zero = rw zero-sub
drop-zeros (suc k) (suc n) = rw suc-sub-suc (drop-zeros k n)

module _ (ps ns : List ℕ) (size : length ps + length ns ≤ TOKENS) where
  behind-first : sets (zeros TOKENS) 0 ps ≡ ps ++ zeros (TOKENS - length ps)
  behind-first =
      let fit : 0 + length ps ≤ length (zeros TOKENS) = omega (arith, length-replicate {A = ℕ} TOKENS 0) in
      sets-eq ps (zeros TOKENS) 0 fit
      ∙ ap (λ (k : ℕ). ps ++ drop k (zeros TOKENS)) (zero-add (length ps))
      ∙ ap (λ (zs : List ℕ). ps ++ zs) (drop-zeros (length ps) TOKENS)

  behind-both : sets (sets (zeros TOKENS) 0 ps) (length ps) ns
      ≡ ps ++ (ns ++ zeros (TOKENS - (length ps + length ns)))
  behind-both =
      let zs = zeros (TOKENS - length ps) in
      let long : length zs ≡ TOKENS - length ps = length-replicate {A = ℕ} (TOKENS - length ps) 0 in
      let fit : length ps + length ns ≤ length (ps ++ zs) = omega (arith, length-append ps zs) in
      let left : (TOKENS - length ps) - length ns ≡ TOKENS - (length ps + length ns) = omega arith in
      ap (λ (xs : List ℕ). sets xs (length ps) ns) behind-first
      ∙ sets-eq ns (ps ++ zs) (length ps) fit
      ∙ ap (λ (xs : List ℕ). (xs ++ ns) ++ drop (length ps + length ns) (ps ++ zs)) (take-append_seam ps zs)
      ∙ ap (λ (xs : List ℕ). (ps ++ ns) ++ xs) (drop-append-add ps zs (length ns))
      ∙ ap (λ (xs : List ℕ). (ps ++ ns) ++ xs) (drop-zeros (length ns) (TOKENS - length ps))
      ∙ append_assoc ps ns (zeros ((TOKENS - length ps) - length ns))
      ∙ ap (λ (k : ℕ). ps ++ (ns ++ zeros k)) left

-- The answer that has a rule's lists.
pub lists-answer : (f : ℕ → List ℕ → List ℕ → spec.Command) (h : ℕ) (x : Command) → OfRule f → IsCommandFor f h x
    → (q : Place) (ps ns : List ℕ) (p n : ℕ) (xs : List ℕ) → length ps + length ns ≤ TOKENS
    → p ≡ length ps → n ≡ length ns → xs ≡ sets (sets (zeros TOKENS) 0 ps) p ns
    → Answers (is (f h ps ns))
    (record { place = q; reading = of.Command x; positives = p; negatives = n; entries = xs })
lists-answer f h x rule same q ps ns p n xs size e d g =
    let zs = zeros (TOKENS - (length ps + length ns)) in
    let whole : xs ≡ ps ++ (ns ++ zs) =
    g ∙ ap (λ (k : ℕ). sets (sets (zeros TOKENS) 0 ps) k ns) e ∙ behind-both ps ns size in
    let one : take p xs ≡ ps = rw (whole, e) (take-append_seam ps (ns ++ zs)) in
    let two : take n (drop p xs) ≡ ns = rw (whole, e, d, drop-append_seam ps (ns ++ zs)) (take-append_seam ns zs) in
    let three : drop (p + n) xs ≡ zeros (TOKENS - (p + n)) =
    rw (whole, e, d, drop-append-add ps (ns ++ zs) (length ns)) (drop-append_seam ns zs) in
    record {
      meaning = rw (one, two, same ps ns);
      positives = e ∙ sym (ap (λ (l : List ℕ × List ℕ). length l.0) (rule h ps ns));
      negatives = d ∙ sym (ap (λ (l : List ℕ × List ℕ). length l.1) (rule h ps ns));
      within = omega arith;
      filler = three;
    }

pub rest-length : (ts : List (List ℕ)) → length (rest_of ts) ≤ length ts
rest-length [] = omega arith
rest-length (t ∷ ts) = omega arith

-- No token is in a line of blanks alone.
pub spaces-tokens : (s : List ℕ) → spaces s ≡ empty (tokens s)
unfolding spaces tokens pieces filled
spaces-tokens [] = refl
spaces-tokens (b ∷ s) = go (is_space b) refl (spaces-tokens s)
  where
    go : (t : Bool) → is_space b ≡ t → spaces s ≡ empty (tokens s) → spaces (b ∷ s) ≡ empty (tokens (b ∷ s))
    go true t h = rw t h
    go false t h = rw t (sym (empty-onto b (pieces s)))

-- Where a token is left, the place lies in the line.
pub some_left : (line : List ℕ) (from : ℕ) → empty (tokens (drop from line)) ≡ false → from ≤ length line
unfolding tokens pieces filled
some_left line from e = go (dec_le from (length line))
  where
    none_left : drop from line ≡ [] → true ≡ false
    none_left d = sym (ap (λ (s : List ℕ). empty (tokens s)) d) ∙ e

    go : Dec (from ≤ length line) → from ≤ length line
    go (yes l) = l
    go (no l) =
        let past : length line ≤ from = omega arith in
        let t = none_left (drop_of_length-le line past) in
        absurd (let z : ◌≡◌ {A = ℕ} 0 1 = cc in omega arith)

-- What a line is, by its length and its tokens.
module _ (line : List ℕ) where
  pub reading-long : LINE < length line → too_long ≡ reading line
  unfolding reading blank
  reading-long h = rw (lt-leb (length line) LINE h, lt-ltb LINE (length line) h)

  module _ (h : length line ≤ LINE) where
    pub reading-blank : empty (tokens line) ≡ true → is_blank ≡ reading line
    unfolding reading blank
    reading-blank e = rw (le-leb (length line) LINE h, spaces-tokens line, e)

    pub reading-form : empty (tokens line) ≡ false → whether (command line) ≡ reading line
    unfolding reading blank
    reading-form e = rw (le-leb (length line) LINE h, spaces-tokens line, e, le-ltb LINE (length line) h)
