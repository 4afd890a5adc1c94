-- Program and plain book, joined: what a program answers of the input that it was fed is what the book prints of it,
-- and the table that the input leaves is the book's. Unless the output could not be written, that input is all that
-- standard input gave up to its end or to 1,048,576 bytes, and all that the book prints of it was handed to standard
-- output. Assumes nothing.
use Prim.Native.Nat.{ℕ, ◌-◌, ◌≤◌, ◌<◌}
use native.Mathlib.Omega.{arith}
use mathlib.Core.Path.{◌≡◌, sym, subst}
use mathlib.Core.Logic.{⊎_elim}
use mathlib.Core.Bool.{Bool, true, false}
use mathlib.Core.List.{List, [], ◌++◌}
use lib.ListN.{length, take, length-take}
use lib.Seq.{take_all}
use Rattle.theory.proofs.Lists.{le-or-lt}
use Rattle.sheet_meaning.specs.Sheets.{MOST, SheetPrints, ProgramPrints}
use Rattle.sheet_meaning.specs.Calls.{calls_of}
use Rattle.sheet_meaning.specs.Seen.{BookPrints}
use Rattle.sheet_meaning.proofs.Books.{sheet-book, sheet-history}
use Rattle.history.specs.Claim.{book_answers, History}
use Rattle.sheet_feed.proofs.Whole.{pieces_end}
use Rattle.program_io.specs.Told.{Given, Shown, shown_none}
use Rattle.program_io.proofs.Writing.{writes_then}
use Rattle.program_sheet.specs.declared.Last.{Last}
use Rattle.program_sheet.specs.Answered.{AnswersLast}

-- The input that was read, and what was fed of it.
abbrev pub read_bytes : {showing : Bool} {buffer : List ℕ} {r : Last} → AnswersLast showing buffer r → List ℕ
read_bytes {buffer = buffer} {r = r} a = take r.read buffer

abbrev pub fed_bytes : {showing : Bool} {buffer : List ℕ} {r : Last} → AnswersLast showing buffer r → List ℕ
fed_bytes a = take a.answers.lines.takes.fed (read_bytes a)

-- All that was answered: what its pieces print, and then the reply to the last line.
abbrev pub answered_bytes : {showing : Bool} {buffer : List ℕ} {r : Last} → AnswersLast showing buffer r → List ℕ
answered_bytes {r = r} a = a.answers.lines.takes.printed ++ take r.reply.next a.answers.after

fed-few :
    {showing : Bool} {buffer : List ℕ} {r : Last} (a : AnswersLast showing buffer r) → length (fed_bytes a) ≤ MOST
fed-few {buffer = buffer} {r = r} a =
    omega (
      arith,
      a.answers.lines.few,
      a.answers.size,
      length-take a.answers.lines.takes.fed (read_bytes a),
      length-take r.read buffer,
    )

answered : {showing : Bool} {buffer : List ℕ} {r : Last} (a : AnswersLast showing buffer r)
    → (p : SheetPrints (fed_bytes a) (answered_bytes a)) × (p.after ≡ r.reply.table)
answered a =
    let all = a.answers in
    pieces_end a.starts all.lines.takes.pieces (fed-few a) all.last.room all.last.replies

answered-sheet :
    {showing : Bool} {buffer : List ℕ} {r : Last} (a : AnswersLast showing buffer r)
    → SheetPrints (fed_bytes a) (answered_bytes a)
answered-sheet a = (answered a).0

-- That is all that a program prints of the input: it has no more bytes than a program reads.
pub program-prints :
    {showing : Bool} {buffer : List ℕ} {r : Last} (a : AnswersLast showing buffer r)
    → ProgramPrints (fed_bytes a) (answered_bytes a)
program-prints a =
    let whole = take_all MOST (fed_bytes a) (fed-few a) in
    subst (λ (bs : List ℕ). SheetPrints bs (answered_bytes a)) (sym whole) (answered-sheet a)

-- So it is what the plain book prints of the input.
pub program-book :
    {showing : Bool} {buffer : List ℕ} {r : Last} (a : AnswersLast showing buffer r)
    → BookPrints (fed_bytes a) (answered_bytes a)
program-book a = sheet-book (answered-sheet a)

-- And the table after its last line is that of exactly the calls that its lines are: the claim over sequences holds of
-- it.
pub program-history :
    {showing : Bool} {buffer : List ℕ} {r : Last} (a : AnswersLast showing buffer r)
    → History (calls_of (fed_bytes a)) (book_answers (calls_of (fed_bytes a))) r.reply.table
program-history a =
    let cs = calls_of (fed_bytes a) in
    subst (History cs (book_answers cs)) (answered a).1 (sheet-history (answered a).0)

-- Standard input gave the bytes that were read.
pub program-given :
    {showing : Bool} {buffer : List ℕ} {r : Last} (a : AnswersLast showing buffer r)
    → Given (read_bytes a) r.read r.got
program-given a = a.answers.lines.given

-- No byte was lost before the last reply if none was after it.
lost-none :
    {showing : Bool} {buffer : List ℕ} {r : Last} (a : AnswersLast showing buffer r) → r.lost ≡ 0
    → a.answers.lost_before ≡ 0
lost-none a e = zero_or a.answers.lost_before (λ l. omega (arith, l, e, (a.answers.last.failed l).1))
  where
    zero_or : (n : ℕ) → (0 < n → ⊥) → n ≡ 0
    zero_or n h = ⊎_elim (λ (z : n ≤ 0). omega arith) (λ (l : 0 < n). absurd (h l)) (le-or-lt n 0)

-- Unless the output could not be written, all that was read was fed, and fewer bytes than a program reads were read
-- only where the last read got nothing.
pub program-read :
    {showing : Bool} {buffer : List ℕ} {r : Last} (a : AnswersLast showing buffer r) → r.lost ≡ 0
    → (fed_bytes a ≡ read_bytes a) × (r.read < MOST → r.got ≡ 0)
program-read {r = r} a e =
    let lines = a.answers.lines in
    let none = lost-none a e in (
      take_all lines.takes.fed (read_bytes a) (omega (arith, lines.takes.whole none)),
      λ l. lines.ended none (omega (arith, l, a.answers.size)),
    )

-- And what was answered was handed to standard output, all of it, in order, and nothing else.
pub program-shown :
    {buffer : List ℕ} {r : Last} (a : AnswersLast true buffer r) → r.lost ≡ 0
    → Shown (answered_bytes a) r.shown 0
program-shown {r = r} a e =
    let none = lost-none a e in
    let all = writes_then a.answers.lines.takes.writes none (a.answers.last.writes none) in
    let whole : take (length (answered_bytes a) - r.lost) (answered_bytes a) ≡ answered_bytes a =
    take_all (length (answered_bytes a) - r.lost) (answered_bytes a) (omega (arith, e)) in
    subst (Shown (answered_bytes a) r.shown) e
    (subst (λ (bs : List ℕ). Shown bs r.shown r.lost) whole (all.shows [] shown_none))

-- A program that shows nothing hands nothing to standard output, and cannot fail to write.
pub program-silent :
    {buffer : List ℕ} {r : Last} (a : AnswersLast false buffer r) → (r.shown ≡ 0) × (r.lost ≡ 0)
program-silent a =
    let lines = a.answers.lines.takes.writes in
    let none : a.answers.lost_before ≡ 0 = omega (arith, lines.few) in
    let last = a.answers.last.writes none in
    (omega (arith, lines.count, last.count, last.few), omega (arith, last.few))
