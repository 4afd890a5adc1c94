-- The claim over sequences, of what a person sees printed: the table after a sheet is that of exactly its calls, and
-- all that is printed is what the plain book prints; so no line meets question 15. Assumes nothing.
use Prim.Native.Nat.{ℕ, suc, ◌+◌}
use native.Mathlib.Omega.{arith}
use mathlib.Core.Path.{◌≡◌, refl, sym, ◌∙◌, ap, subst}
use mathlib.Core.List.{List, [], ◌∷◌, ◌++◌, append_assoc, append-nil}
use lib.ListN.{length}
use Rattle.theory.specs.Rules.{Pages}
use Rattle.theory.specs.Limits.{document}
use Rattle.theory.specs.Book.{Answer}
use Rattle.theory.proofs.Lists.{eqb-not}
use Rattle.table.specs.declared.Table.{Table}
use Rattle.table.specs.Clean.{empty_table}
use Rattle.table.specs.Sound.{Sound}
use Rattle.table.proofs.Empty.{empty-sound}
use Rattle.calls.specs.Ends.{held}
use Rattle.history.specs.Calls.{Call, call_after, calls_after}
use Rattle.history.specs.Claim.{Trace, stop, call, book_answers, History}
use Rattle.history.proofs.Sequence.{history, trace-agrees, empty-held}
use Rattle.sheet_lines.specs.Readings.{Line, is_blank, reading, blank, spaces}
use Rattle.fields.specs.Texts.{NEWLINE}
use Rattle.sheet_meaning.specs.Sheets as whole
use Rattle.sheet_meaning.specs.Sheets.{State, start, ended, Reads, SheetPrints}
use Rattle.sheet_meaning.specs.Calls.{ended_lines, behind_newlines, last_line, lines_of}
use Rattle.sheet_meaning.specs.Calls.{line_calls, lines_calls, calls_of}
use Rattle.sheet_meaning.specs.Seen.{Seen, pages_after, LinesPrint, no_line, one_line, BookPrints}
use Rattle.sheet_meaning.proofs.LinesMet.{LineDone, line-done}
use Rattle.sheet_meaning.proofs.OneBook.{book-prints-unique}

-- The lines of a sheet, byte by byte.

ended-byte :
    (line : List ℕ) (b : ℕ) (bs : List ℕ) → (b ≡ NEWLINE → ⊥)
    → ended_lines (line ++ (b ∷ [])) bs ≡ ended_lines line (b ∷ bs)
unfolding ended_lines
ended-byte line b bs f = rw (eqb-not b NEWLINE f) refl

behind-byte :
    (line : List ℕ) (b : ℕ) (bs : List ℕ) → (b ≡ NEWLINE → ⊥)
    → behind_newlines (line ++ (b ∷ [])) bs ≡ behind_newlines line (b ∷ bs)
unfolding behind_newlines
behind-byte line b bs f = rw (eqb-not b NEWLINE f) refl

ended-newline : (line bs : List ℕ) → line ∷ ended_lines [] bs ≡ ended_lines line (NEWLINE ∷ bs)
unfolding ended_lines
ended-newline line bs = refl

behind-newline : (line bs : List ℕ) → behind_newlines [] bs ≡ behind_newlines line (NEWLINE ∷ bs)
unfolding behind_newlines
behind-newline line bs = refl

-- Calls and lines behind others.

pub traces-join :
    {t u v : Table} {cs ds : List Call} {xs ys : List Answer} → Trace t cs xs u → Trace u ds ys v
    → Trace t (cs ++ ds) (xs ++ ys) v
traces-join stop r = r
traces-join (call s q) r = call s (traces-join q r)

after-join :
    (B : Pages) (cs ds : List Call)
    → calls_after document B (cs ++ ds) ≡ calls_after document (calls_after document B cs) ds
unfolding calls_after
after-join B [] ds = refl
after-join B (c ∷ cs) ds = after-join (call_after document B c) cs ds

calls-join : (ls ms : List (List ℕ)) → lines_calls (ls ++ ms) ≡ lines_calls ls ++ lines_calls ms
unfolding lines_calls
calls-join [] ms = refl
calls-join (l ∷ ls) ms =
    ap (λ (cs : List Call). line_calls (reading l) ++ cs) (calls-join ls ms)
    ∙ sym (append_assoc (line_calls (reading l)) (lines_calls ls) (lines_calls ms))

lines_join :
    {B : Pages} {n : ℕ} {ls ms : List (List ℕ)} {out more : List ℕ} → LinesPrint B n ls out
    → LinesPrint (calls_after document B (lines_calls ls)) (n + length ls) ms more
    → LinesPrint B n (ls ++ ms) (out ++ more)
unfolding lines_calls calls_after
lines_join {B} {n} {ms = ms} {more = more} no_line q =
    let e : n + 0 ≡ n = omega arith in
    subst (λ (k : ℕ). LinesPrint B k ms more) e q
lines_join {B} {n} {ms = ms} {more = more} (one_line {line = l} {lines = ls} printed seen rest) q =
    let e : n + suc (length ls) ≡ suc n + length ls = omega arith in
    rw append_assoc (one_line printed seen (lines_join rest
    (subst (λ (Q : Pages). LinesPrint Q (suc n + length ls) ms more)
    (after-join B (line_calls (reading l)) (lines_calls ls))
    (subst (λ (k : ℕ). LinesPrint (calls_after document B (line_calls (reading l) ++ lines_calls ls)) k ms more) e q))))

-- From a sound table, some bytes of a sheet: the lines that they end were met one after another.
record SoFar (s v : State) (lines : List (List ℕ)) (behind out : List ℕ) : Type 0 where
  told : List Answer
  trace : Trace s.table (lines_calls lines) told v.table
  seen : LinesPrint (held s.table) s.number lines out
  at_hand : v.line ≡ behind
  number : v.number ≡ s.number + length lines

no_byte : (s : State) → SoFar s s (ended_lines s.line []) (behind_newlines s.line []) []
unfolding ended_lines behind_newlines lines_calls
no_byte s = record { told = []; trace = stop; seen = no_line; at_hand = refl; number = omega arith }

line-then :
    {s v : State} {u : Table} {lines : List (List ℕ)} {printed behind out : List ℕ}
    → LineDone s.table s.number (reading s.line) printed u
    → held u ≡ pages_after (held s.table) (reading s.line) → SoFar (ended s u) v lines behind out
    → SoFar s v (s.line ∷ lines) behind (printed ++ out)
unfolding lines_calls
line-then {s} {lines = lines} {printed = printed} {out = out} d e w = record {
  told = d.told ++ w.told;
  trace = traces-join d.trace w.trace;
  seen = one_line printed d.seen
      (subst (λ (Q : Pages). LinesPrint Q (suc s.number) lines out) e w.seen);
  at_hand = w.at_hand;
  number = omega (arith, w.number);
}

so_far :
    {s v : State} {bs out : List ℕ} → Sound s.table → Reads s bs out v
    → SoFar s v (ended_lines s.line bs) (behind_newlines s.line bs) out
so_far {s} S whole.stop = no_byte s
so_far {s} {v} {out = out} S (whole.byte {b = b} {bs = bs} f r) =
    let w = so_far S r in
    subst (λ (ls : List (List ℕ)). SoFar s v ls (behind_newlines s.line (b ∷ bs)) out) (ended-byte s.line b bs f)
    (subst (λ (z : List ℕ). SoFar s v (ended_lines (s.line ++ (b ∷ [])) bs) z out) (behind-byte s.line b bs f)
    (record { told = w.told; trace = w.trace; seen = w.seen; at_hand = w.at_hand; number = w.number }))
so_far {s} {v} S (whole.newline {u = u} {bs = bs} {printed = printed} {out = out} p r) =
    let d = line-done S p in
    let agrees = trace-agrees S d.trace in
    let w = so_far agrees.sound r in
    subst (λ (ls : List (List ℕ)). SoFar s v ls (behind_newlines s.line (NEWLINE ∷ bs)) (printed ++ out))
    (ended-newline s.line bs)
    (subst (λ (z : List ℕ). SoFar s v (s.line ∷ ended_lines [] bs) z (printed ++ out)) (behind-newline s.line bs)
    (line-then d agrees.kept w))

-- The last line. One without bytes is blank, and neither prints nor is a call.

empty-blank : reading [] ≡ is_blank
unfolding reading blank spaces
empty-blank = refl

last-calls : (z : List ℕ) → line_calls (reading z) ≡ lines_calls (last_line z)
unfolding lines_calls
last-calls [] = ap line_calls empty-blank
last-calls (b ∷ z) = sym (append-nil (line_calls (reading (b ∷ z))))

last-seen :
    {B : Pages} {n : ℕ} {out : List ℕ} (z : List ℕ) → Seen B n (reading z) out → LinesPrint B n (last_line z) out
last-seen {B} {n} {out} [] f =
    let e : out ≡ [] = subst (λ (l : Line). Seen B n l out) empty-blank f in
    subst (LinesPrint B n []) (sym e) no_line
last-seen {B} {n} {out} (b ∷ z) f = subst (LinesPrint B n ((b ∷ z) ∷ [])) (append-nil out) (one_line out f no_line)

-- Every line of a sheet meets a sound table: so none, `L` and `W` among them, meets question 15. The empty table is
-- sound, each line that ends makes the calls that it is, and calls lead from a sound table to a sound one.
pub never-15 : {v : State} {bs out : List ℕ} → Reads start bs out v → Sound v.table
never-15 r = (trace-agrees empty-sound (so_far empty-sound r).trace).sound

-- The book's answers to some calls, and the table that these calls lead to: the claim over sequences holds of it.
module _ {cs : List Call} {xs : List Answer} {t : Table} (T : Trace empty_table cs xs t) where
  traced : Trace empty_table cs (book_answers cs) t
  traced = subst (λ (ys : List Answer). Trace empty_table cs ys t) (history cs xs t T).answered T

-- The table when some bytes of a sheet were read is that of exactly the calls of the lines that they end.
pub reads-trace :
    {v : State} {bs out : List ℕ} → Reads start bs out v
    → Trace empty_table (lines_calls (ended_lines [] bs)) (book_answers (lines_calls (ended_lines [] bs)))
    v.table
reads-trace r = traced (so_far empty-sound r).trace

-- The whole of a sheet.
module _ {input out : List ℕ} (p : SheetPrints input out) where
  before : SoFar start p.before_last (ended_lines [] input) (behind_newlines [] input) p.printed
  before = so_far empty-sound p.reads

  abbrev last_state : State
  last_state = p.before_last

  last : LineDone last_state.table last_state.number (reading last_state.line) p.last p.after
  last = line-done (never-15 p.reads) p.prints

  all-calls : lines_calls (ended_lines [] input) ++ line_calls (reading last_state.line) ≡ calls_of input
  all-calls =
      ap (λ (z : List ℕ). lines_calls (ended_lines [] input) ++ line_calls (reading z)) before.at_hand
      ∙ ap (λ (cs : List Call). lines_calls (ended_lines [] input) ++ cs) (last-calls (behind_newlines [] input))
      ∙ sym (calls-join (ended_lines [] input) (last_line (behind_newlines [] input)))

  -- The table after a sheet is that of exactly its calls, and their answers are the book's.
  pub sheet-trace : Trace empty_table (calls_of input) (book_answers (calls_of input)) p.after
  sheet-trace =
      let joined = traces-join before.trace last.trace in
      traced (subst (λ (cs : List Call). Trace empty_table cs (before.told ++ last.told) p.after) all-calls joined)

  -- So the claim over sequences holds after it, of these calls: `history` speaks of any calls that were made one after
  -- another from the empty table, and those of a sheet were, whatever else its lines print.
  pub sheet-history : History (calls_of input) (book_answers (calls_of input)) p.after
  sheet-history = history (calls_of input) _ p.after sheet-trace

  -- All that a sheet prints is what the plain book prints. Line by line: the table before a line has the book's pages
  -- after the calls so far, so what the line prints by the table is what it prints by these pages; the lines that a
  -- newline ends come first, then the last one.
  pub sheet-book : BookPrints input out
  sheet-book =
      let ls = ended_lines [] input in
      let z = behind_newlines [] input in
      let kept = (trace-agrees empty-sound before.trace).kept in
      let seen : Seen (calls_after document (held empty_table) (lines_calls ls)) (1 + length ls) (reading z) p.last =
      subst (λ (y : List ℕ). Seen (calls_after document (held empty_table) (lines_calls ls)) (1 + length ls) (reading y)
      p.last) before.at_hand
      (subst (λ (n : ℕ).
      Seen (calls_after document (held empty_table) (lines_calls ls)) n (reading last_state.line) p.last)
      before.number
      (subst (λ (Q : Pages). Seen Q last_state.number (reading last_state.line) p.last) kept
      last.seen)) in
      subst (λ (Q : Pages). LinesPrint Q 1 (lines_of input) out) empty-held
      (subst (LinesPrint (held empty_table) 1 (lines_of input)) (sym p.whole)
      (lines_join before.seen (last-seen z seen)))

-- Where a sheet prints something, what the plain book prints of it is that and nothing else: the book prints one list
-- of bytes, and by the law before this is one that it prints.
pub book-sheet : {input out more : List ℕ} → SheetPrints input out → BookPrints input more → more ≡ out
book-sheet {input} p q = book-prints-unique input q (sheet-book p)
