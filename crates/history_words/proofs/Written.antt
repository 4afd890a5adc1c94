-- Every list of calls has words and files that `replay` reads as this list; each word has 32 bits where the calls'
-- numbers, the lengths of their lists and that of all files have. Assumes nothing.
use Prim.Native.Nat.{ℕ, zero, suc, ◌+◌, ◌-◌, ◌^◌, ◌≤◌, ◌<◌}
use native.Mathlib.Omega.{arith}
use mathlib.Core.Path.{◌≡◌, refl, sym, ◌∙◌, ap, ap₂}
use mathlib.Core.Logic.{⊎_elim}
use mathlib.Core.Bool.{Bool, true, false, cond, not}
use mathlib.Core.List.Memᴰ
use mathlib.Core.List.{List, [], ◌∷◌, ◌++◌, append_assoc, append-nil, Memᴰ}
use mathlib.Core.Option.{some}
use lib.Dec.{eqb}
use lib.ListN.{length, get_or, take, drop, length-append}
use lib.Seq.{get_or-append_seam, get_or-append-add, take-append_seam, drop-append_seam, drop-append-add, drop-drop}
use Rattle.theory.specs.Lists.{◌∈◌}
use Rattle.theory.specs.Rules.{Rule}
use Rattle.theory.specs.Book as book
use Rattle.theory.specs.Book.{add, remove, replace, mute}
use Rattle.checklist_meaning.specs.Questions.{file_sent, file_skipped, skip_withdrawn}
use Rattle.checklist_meaning.specs.Book.{opening, of_file}
use Rattle.checklist_meaning.specs.Book as list
use Rattle.history.specs.Calls.{Call, change, load, checklist}
use Rattle.history_words.specs.Encoding.{rule_in_words, rule_end, between, load_at, placed, decode, calls_in}
use Rattle.history_words.specs.Encoding.{placed_rule, checklist_at, placed_kind}
use Rattle.history_words.specs.Encoding.{call_file, loaded_files, written_rule, call_words, written_from, written}
use Rattle.history_words.specs.Encoding.{Below, Words, Bytes, RuleFits, CallFits}
use Rattle.history_words.proofs.Reading.{short, by_kind, rule-whole, mute-whole, load_fits, decode-over}
use Rattle.history_words.proofs.Reading.{decode-next}

-- A rule that stands behind other words is read.
module _ (xs rest : List ℕ) (r : Rule) where
  abbrev behind : List ℕ
  behind = written_rule r ++ rest

  abbrev ws : List ℕ
  ws = xs ++ behind

  head_read : get_or ws (length xs) 0 ≡ r.head
  head_read = get_or-append_seam xs r.head (drop 1 behind) 0

  word : (i : ℕ) → get_or ws (length xs + i) 0 ≡ get_or behind i 0
  word i = get_or-append-add xs behind i 0

  lists : drop (length xs + 3) ws ≡ r.positives ++ (r.negatives ++ rest)
  lists = drop-append-add xs behind 3 ∙ append_assoc r.positives r.negatives rest

  positives-read : take (length r.positives) (drop (length xs + 3) ws) ≡ r.positives
  positives-read =
      ap (take (length r.positives)) lists ∙ take-append_seam r.positives (r.negatives ++ rest)

  negatives-read :
      take (length r.negatives) (drop (length xs + 3 + length r.positives) ws) ≡ r.negatives
  negatives-read =
      ap (take (length r.negatives))
      (sym (drop-drop (length r.positives) (length xs + 3) ws) ∙ ap (drop (length r.positives)) lists
      ∙ drop-append_seam r.positives (r.negatives ++ rest))
      ∙ take-append_seam r.negatives rest

  rule-read : rule_in_words ws (length xs) ≡ r
  rule-read =
      (λ i. record {
        head = head_read i;
        positives = take (word 1 i) (drop (length xs + 3) ws);
        negatives = take (word 2 i) (drop (length xs + 3 + word 1 i) ws);
      })
      ∙ (λ i. record { head = r.head; positives = positives-read i; negatives = negatives-read i })

  end_read : rule_end ws (length xs) ≡ length (xs ++ written_rule r)
  end_read = omega (
    arith,
    word 1,
    word 2,
    length-append xs (written_rule r),
    length-append r.positives r.negatives,
  )

  pub rule-placed :
      (of : Rule → book.Call)
      → placed_rule ws (length xs) of ≡ some (record { call = change (of r); behind = length (xs ++ written_rule r) })
  rule-placed of =
      let room : rule_end ws (length xs) ≤ length ws =
      omega (
        arith,
        end_read,
        length-append xs (written_rule r),
        length-append xs behind,
        length-append (written_rule r) rest,
      ) in
      rule-whole ws (length xs) of room
      ∙ (λ i. some (record { call = change (of (rule-read i)); behind = end_read i }))

-- The same of a rule that stands behind a call's first words.
rule-behind :
    (xs lead rest : List ℕ) (r : Rule) (of : Rule → book.Call)
    → placed_rule (xs ++ (lead ++ (written_rule r ++ rest))) (length xs + length lead) of
    ≡ some (record { call = change (of r); behind = length (xs ++ (lead ++ written_rule r)) })
rule-behind xs lead rest r of =
    ap₂ (λ (ws : List ℕ) (k : ℕ). placed_rule ws k of) (sym (append_assoc xs lead (written_rule r ++ rest)))
    (sym (length-append xs lead))
    ∙ rule-placed (xs ++ lead) rest r of
    ∙ ap (λ (ws : List ℕ). some (record { call = change (of r); behind = length ws }))
    (append_assoc xs lead (written_rule r))

-- The mark of a muting that was written is read.
mark-read : (m : Bool) → not (eqb (cond m 1 0) 0) ≡ m
mark-read true = refl
mark-read false = refl

mark-fits : (m : Bool) → cond m 1 0 < 2 ^ 32
mark-fits true = omega arith
mark-fits false = omega arith

-- A call that stands behind other words is read.
module _ (files xs rest : List ℕ) where
  placed-removal :
      (s : ℕ)
      → placed (xs ++ (0 ∷ s ∷ rest)) files (length xs)
      ≡ some (record { call = change (remove s); behind = length xs + 2 })
  placed-removal s =
      let ws = xs ++ (0 ∷ s ∷ rest) in
      by_kind ws files (length xs) (omega (arith, length-append xs (0 ∷ s ∷ rest))) 0
      (get_or-append_seam xs 0 (s ∷ rest) 0)
      ∙ ap (λ (k : ℕ). some (record { call = change (remove k); behind = length xs + 2 }))
      (get_or-append-add xs (0 ∷ s ∷ rest) 1 0)

  placed-muting :
      (s mark : ℕ)
      → placed (xs ++ (8 ∷ s ∷ mark ∷ rest)) files (length xs)
      ≡ some (record { call = change (mute s (not (eqb mark 0))); behind = length xs + 3 })
  placed-muting s mark =
      let ys : List ℕ = 8 ∷ s ∷ mark ∷ rest in
      let n = length-append xs ys in
      by_kind (xs ++ ys) files (length xs) (omega (arith, n)) 8 (get_or-append_seam xs 8 (s ∷ mark ∷ rest) 0)
      ∙ mute-whole (xs ++ ys) (length xs) (omega (arith, n))
      ∙ ap₂ (λ (k j : ℕ). some (record { call = change (mute k (not (eqb j 0))); behind = length xs + 3 }))
      (get_or-append-add xs ys 1 0) (get_or-append-add xs ys 2 0)

  placed-change :
      (passed : ℕ) (c : book.Call)
      → placed (xs ++ (call_words passed (change c) ++ rest)) files (length xs)
      ≡ some (record { call = change c; behind = length (xs ++ call_words passed (change c)) })
  placed-change passed (remove s) =
      placed-removal s
      ∙ ap (λ (k : ℕ). some (record { call = change (remove s); behind = k })) (sym (length-append xs (0 ∷ s ∷ [])))
  placed-change passed (add r) =
      let ws = written_rule r ++ rest in
      by_kind (xs ++ (1 ∷ ws)) files (length xs) (omega (arith, length-append xs (1 ∷ ws))) 1
      (get_or-append_seam xs 1 ws 0)
      ∙ rule-behind xs (1 ∷ []) rest r add
  placed-change passed (replace s r) =
      let ws = written_rule r ++ rest in
      by_kind (xs ++ (7 ∷ s ∷ ws)) files (length xs) (omega (arith, length-append xs (7 ∷ s ∷ ws))) 7
      (get_or-append_seam xs 7 (s ∷ ws) 0)
      ∙ ap (λ (k : ℕ). placed_rule (xs ++ (7 ∷ s ∷ ws)) (length xs + 2) (replace k))
      (get_or-append-add xs (7 ∷ s ∷ ws) 1 0)
      ∙ rule-behind xs (7 ∷ s ∷ []) rest r (replace s)
  placed-change passed (mute s m) =
      placed-muting s (cond m 1 0)
      ∙ ap₂ (λ (b : Bool) (k : ℕ). some (record { call = change (mute s b); behind = k })) (mark-read m)
      (sym (length-append xs (8 ∷ s ∷ cond m 1 0 ∷ [])))

  -- A call of a checklist: by its kind and its number.
  module _ (kind i : ℕ) where
    abbrev two : List ℕ
    two = xs ++ (kind ∷ i ∷ rest)

    placed-numbered :
        (of : ℕ → list.Call) → placed_kind two files (length xs) kind ≡ some (checklist_at two (length xs) of)
        → placed two files (length xs)
        ≡ some (record { call = checklist (of i); behind = length (xs ++ (kind ∷ i ∷ [])) })
    placed-numbered of e =
        by_kind two files (length xs) (omega (arith, length-append xs (kind ∷ i ∷ rest))) kind
        (get_or-append_seam xs kind (i ∷ rest) 0)
        ∙ e
        ∙ ap (λ (k : ℕ). some (record { call = checklist (of k); behind = length xs + 2 }))
        (get_or-append-add xs (kind ∷ i ∷ rest) 1 0)
        ∙ ap (λ (k : ℕ). some (record { call = checklist (of i); behind = k }))
        (sym (length-append xs (kind ∷ i ∷ [])))

  placed-checklist :
      (passed : ℕ) (c : list.Call)
      → placed (xs ++ (call_words passed (checklist c) ++ rest)) files (length xs)
      ≡ some (record { call = checklist c; behind = length (xs ++ call_words passed (checklist c)) })
  placed-checklist passed (opening n) = placed-numbered 3 n opening refl
  placed-checklist passed (of_file (file_sent i)) = placed-numbered 4 i (λ j. of_file (file_sent j)) refl
  placed-checklist passed (of_file (file_skipped i)) = placed-numbered 5 i (λ j. of_file (file_skipped j)) refl
  placed-checklist passed (of_file (skip_withdrawn i)) = placed-numbered 6 i (λ j. of_file (skip_withdrawn j)) refl

-- A load whose file stands behind other bytes.
module _ (before file more xs rest : List ℕ) where
  abbrev loading : List ℕ
  loading = 2 ∷ length before ∷ (length before + length file) ∷ rest

  abbrev all_words : List ℕ
  all_words = xs ++ loading

  abbrev all_files : List ℕ
  all_files = before ++ (file ++ more)

  from-read : get_or all_words (length xs + 1) 0 ≡ length before
  from-read = get_or-append-add xs loading 1 0

  to_read : get_or all_words (length xs + 2) 0 ≡ length before + length file
  to_read = get_or-append-add xs loading 2 0

  file-read : between all_files (length before) (length before + length file) ≡ file
  file-read =
      let n : length before + length file - length before ≡ length file = omega arith in
      ap (λ (k : ℕ). take k (drop (length before) all_files)) n
      ∙ ap (take (length file)) (drop-append_seam before (file ++ more)) ∙ take-append_seam file more

  load_read : load_at all_words all_files (length xs) ≡ record { call = load file; behind = length xs + 3 }
  load_read =
      (λ i. record { call = load (between all_files (from-read i) (to_read i)); behind = length xs + 3 })
      ∙ ap (λ (bs : List ℕ). record { call = load bs; behind = length xs + 3 }) file-read

  placed-loading :
      placed all_words all_files (length xs)
      ≡ some (record {
        call = load file;
        behind = length (xs ++ (2 ∷ length before ∷ (length before + length file) ∷ []));
      })
  placed-loading =
      let words : length all_words ≡ length xs + 3 + length rest = omega (arith, length-append xs loading) in
      let bytes : length all_files ≡ length before + length file + length more =
      omega (arith, length-append before (file ++ more), length-append file more) in
      let end : length xs + 3 ≡ length (xs ++ (2 ∷ length before ∷ (length before + length file) ∷ [])) =
      omega (arith, length-append xs (2 ∷ length before ∷ (length before + length file) ∷ [])) in
      by_kind all_words all_files (length xs) (omega arith) 2
      (get_or-append_seam xs 2 (length before ∷ (length before + length file) ∷ rest) 0)
      ∙ load_fits all_words all_files (length xs) (omega arith) (omega (arith, from-read, to_read))
      (omega (arith, to_read))
      ∙ ap some load_read
      ∙ ap (λ (k : ℕ). some (record { call = load file; behind = k })) end

placed-call :
    (before more xs rest : List ℕ) (c : Call)
    → placed (xs ++ (call_words (length before) c ++ rest)) (before ++ (call_file c ++ more)) (length xs)
    ≡ some (record { call = c; behind = length (xs ++ call_words (length before) c) })
placed-call before more xs rest (change c) = placed-change (before ++ more) xs rest (length before) c
placed-call before more xs rest (load file) = placed-loading before file more xs rest
placed-call before more xs rest (checklist c) = placed-checklist (before ++ more) xs rest (length before) c

-- A list of calls that stands behind other words, and its files behind other bytes, is read.

nothing-behind : (n : ℕ) (xs : List ℕ) → xs ++ written_from n [] ≡ xs
unfolding written_from
nothing-behind n xs = append-nil xs

words-behind :
    (n : ℕ) (xs : List ℕ) (c : Call) (cs : List Call)
    → xs ++ written_from n (c ∷ cs) ≡ xs ++ (call_words n c ++ written_from (n + length (call_file c)) cs)
unfolding written_from
words-behind n xs c cs = refl

files-behind :
    (ys : List ℕ) (c : Call) (cs : List Call)
    → ys ++ loaded_files (c ∷ cs) ≡ ys ++ (call_file c ++ loaded_files cs)
unfolding loaded_files
files-behind ys c cs = refl

decode-behind :
    (cs : List Call) (most : ℕ) (xs ys : List ℕ) → length cs ≤ most
    → decode most (xs ++ written_from (length ys) cs) (ys ++ loaded_files cs) (length xs) ≡ cs
decode-behind [] most xs ys l =
    let ws = xs ++ written_from (length ys) [] in
    let e : length ws ≡ length xs = ap length (nothing-behind (length ys) xs) in
    decode-over most ws (ys ++ loaded_files []) (length xs)
    (short ws (ys ++ loaded_files []) (length xs) (omega (arith, e)))
decode-behind (c ∷ cs) zero xs ys l = absurd (omega arith)
decode-behind (c ∷ cs) (suc most) xs ys l =
    let n = length ys in
    let m = n + length (call_file c) in
    let fs = ys ++ (call_file c ++ loaded_files cs) in
    let word : m ≡ length (ys ++ call_file c) = sym (length-append ys (call_file c)) in
    ap₂ (λ (ws bs : List ℕ). decode (suc most) ws bs (length xs)) (words-behind n xs c cs) (files-behind ys c cs)
    ∙ decode-next most (xs ++ (call_words n c ++ written_from m cs)) fs (length xs) _
    (placed-call ys (loaded_files cs) xs (written_from m cs) c)
    ∙ ap (λ (ds : List Call). c ∷ ds)
    (ap₂ (λ (ws bs : List ℕ). decode most ws bs (length (xs ++ call_words n c)))
    (sym (append_assoc xs (call_words n c) (written_from m cs))
    ∙ ap (λ (k : ℕ). (xs ++ call_words n c) ++ written_from k cs) word)
    (sym (append_assoc ys (call_file c) (loaded_files cs)))
    ∙ decode-behind cs most (xs ++ call_words n c) (ys ++ call_file c) (omega arith))

-- Written and read back, a list of calls is the same, given room for its answers. By induction on the list, of words
-- that stand behind others (`decode-behind`): the first call is read whatever stands behind it (`placed-call`), and the
-- place behind it is where the rest begins.
pub decode-written :
    (cs : List Call) (before : List ℕ) → length cs ≤ length before → calls_in (written cs) (loaded_files cs) before ≡ cs
decode-written cs before l = decode-behind cs (length before) [] [] l

-- Words of 32 bits, and bytes.

below-nil : {n : ℕ} → Below n []
below-nil y m = absurd (Memᴰ.not-nil m)

below-append : {n : ℕ} (xs : List ℕ) {ys : List ℕ} → Below n xs → Below n ys → Below n (xs ++ ys)
below-append xs v w y m = ⊎_elim (v y) (w y) (Memᴰ.append_cases xs m)

below-cons : {n x : ℕ} {xs : List ℕ} → x < n → Below n xs → Below n (x ∷ xs)
below-cons {n} {x} {xs} l w y m = ⊎_elim
    (λ (e : y ≡ x). omega (arith, e, l))
    (λ (i : y ∈ xs). w y i)
    (Memᴰ.cases_cons m)

written_rule-fit : (r : Rule) → RuleFits r → Words (written_rule r)
written_rule-fit r (h, p, k, ps, ns) =
    below-cons h (below-cons p (below-cons k (below-append r.positives ps ns)))

change-fits : (n : ℕ) (c : book.Call) → CallFits (change c) → Words (call_words n (change c))
change-fits n (remove s) f = below-cons (omega arith) (below-cons f below-nil)
change-fits n (add r) f = below-cons (omega arith) (written_rule-fit r f)
change-fits n (replace s r) (l, f) = below-cons (omega arith) (below-cons l (written_rule-fit r f))
change-fits n (mute s m) f = below-cons (omega arith) (below-cons f (below-cons (mark-fits m) below-nil))

checklist-fits : (n : ℕ) (c : list.Call) → CallFits (checklist c) → Words (call_words n (checklist c))
checklist-fits n (opening k) f = below-cons (omega arith) (below-cons f below-nil)
checklist-fits n (of_file (file_sent i)) f = below-cons (omega arith) (below-cons f below-nil)
checklist-fits n (of_file (file_skipped i)) f = below-cons (omega arith) (below-cons f below-nil)
checklist-fits n (of_file (skip_withdrawn i)) f = below-cons (omega arith) (below-cons f below-nil)

call_fits : (n : ℕ) (c : Call) → CallFits c → n + length (call_file c) < 2 ^ 32 → Words (call_words n c)
call_fits n (change c) f l = change-fits n c f
call_fits n (load bytes) f l = below-cons (omega arith) (below-cons (omega arith) (below-cons l below-nil))
call_fits n (checklist c) f l = checklist-fits n c f

written-from-fits :
    (n : ℕ) (cs : List Call) → ((c : Call) → Memᴰ c cs → CallFits c) → n + length (loaded_files cs) < 2 ^ 32
    → Words (written_from n cs)
unfolding written_from loaded_files
written-from-fits n [] f l = below-nil
written-from-fits n (c ∷ cs) f l =
    let e = length-append (call_file c) (loaded_files cs) in
    below-append (call_words n c) (call_fits n c (f c (Memᴰ.head refl)) (omega (arith, e)))
    (written-from-fits (n + length (call_file c)) cs (λ d m. f d (Memᴰ.tail m)) (omega (arith, e)))

pub written-fits :
    (cs : List Call) → ((c : Call) → Memᴰ c cs → CallFits c) → length (loaded_files cs) < 2 ^ 32
    → Words (written cs)
written-fits cs f l = written-from-fits 0 cs f (omega arith)

file-bytes : (c : Call) → CallFits c → Bytes (call_file c)
file-bytes (change c) f = below-nil
file-bytes (load bytes) f = f
file-bytes (checklist c) f = below-nil

pub files-fit : (cs : List Call) → ((c : Call) → Memᴰ c cs → CallFits c) → Bytes (loaded_files cs)
unfolding loaded_files
files-fit [] f = below-nil
files-fit (c ∷ cs) f =
    below-append (call_file c) (file-bytes c (f c (Memᴰ.head refl)))
    (files-fit cs (λ d m. f d (Memᴰ.tail m)))
