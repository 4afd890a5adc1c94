-- Programs and plain book, joined: what is saved is the file of the book's pages after the sheet, and it is shown; so
-- are the lines of a file. Assumes nothing.
use Prim.Native.Nat.{ℕ, ◌-◌, ◌≤◌}
use native.Mathlib.Omega.{arith}
use mathlib.Core.Path.{◌≡◌, ◌∙◌, ap, subst}
use mathlib.Core.List.{List, []}
use mathlib.Core.Option.{Option, none, some, none-ne-some}
use lib.ListN.{length, take}
use lib.Seq.{take_all, take-append_seam}
use Rattle.theory.specs.Rules.{Pages}
use Rattle.theory.specs.Sound.{SoundRules}
use Rattle.theory.specs.Questions.{first_no}
use Rattle.theory.specs.Limits.{document}
use Rattle.theory.proofs.Questions.{first_no-none}
use Rattle.table.specs.declared.Table.{Table}
use Rattle.table.specs.Sound.{Sound}
use Rattle.file_blocks.specs.Files.{file_of}
use Rattle.file_blocks.proofs.RoundTrips.{file-accepted, file-pages}
use Rattle.calls.specs.Answers.{ListAnswer}
use Rattle.refusals.specs.Refusals.{number_of}
use Rattle.calls.specs.Ends as contract
use Rattle.calls.specs.Ends.{held, SaveEnds}
use Rattle.history.specs.Claim.{book_after}
use Rattle.sheet_meaning.specs.Calls.{calls_of}
use Rattle.sheet_meaning.specs.Seen.{SeesLabels}
use Rattle.file_lines.specs.Loads.{LONGEST, LoadPrints, LoadSeen}
use Rattle.file_lines.proofs.Books.{load-book, whole-short}
use Rattle.program_io.specs.Told.{Shown, shown_none, Writes}
use Rattle.program_sheet.proofs.Joined.{read_bytes, fed_bytes, program-history, program-read, program-silent}
use Rattle.program_files.specs.declared.Saved.{Saved}
use Rattle.program_files.specs.declared.Listed.{Listed}
use Rattle.program_files.specs.Saves.{count_of, SavesInput}
use Rattle.program_files.specs.Loads.{LoadsInput}

-- Saving. The file of a sound table has room, so neither 15 nor 11 is met.

file-short : {B : Pages} → SoundRules document B → length (file_of B) ≤ LONGEST
file-short {B} s = whole-short (file_of B) (first_no-none _ _ (file-accepted B s)).0

saved-file :
    (t : Table) (before after : List ℕ) (x : ListAnswer) → Sound t → LONGEST ≤ length before → SaveEnds t before x after
    → take (count_of x) after ≡ file_of (held t)
saved-file t before after x S room (contract.unsound n) = absurd (n S)
saved-file t before after x S room (contract.refused f T e) =
    let asked : none ≡ some (number_of f) = unfold first_no in e in
    absurd (none-ne-some (number_of f) asked)
saved-file t before after x S room (contract.short M bs T e A i l) =
    absurd (omega (arith, room, l, ap length i, file-short S.rules))
saved-file t before after x S room (contract.accepted M bs T e A i l) = take-append_seam bs _ ∙ i

-- What is saved is the file of the book's pages after exactly the calls that the lines of the sheet are.
pub saved-book :
    {buffer before after : List ℕ} {r : Saved} (s : SavesInput buffer before after r)
    → take r.count after ≡ file_of (book_after (calls_of (fed_bytes s.sheet)))
saved-book {after = after} {r = r} s =
    let claim = program-history s.sheet in
    ap (λ (n : ℕ). take n after) s.count
    ∙ saved-file r.last.reply.table _ after s.answer claim.sound (omega (arith, s.room)) s.saves
    ∙ ap file_of claim.slots

-- No byte is lost on the way, so these are the calls of all the input that was read.
pub saved-whole :
    {buffer before after : List ℕ} {r : Saved} (s : SavesInput buffer before after r)
    → take r.count after ≡ file_of (book_after (calls_of (read_bytes s.sheet)))
saved-whole s =
    let whole = program-read s.sheet (program-silent s.sheet).1 in
    saved-book s ∙ ap (λ (bs : List ℕ). file_of (book_after (calls_of bs))) whole.0

-- And of that file the labels are printed that the book shows of these pages.
pub saved-loaded :
    {buffer before after out : List ℕ} {r : Saved} (s : SavesInput buffer before after r)
    → LoadPrints (take r.count after) out
    → SeesLabels (book_after (calls_of (fed_bytes s.sheet))) out
saved-loaded {out = out} {r = r} s p =
    let claim = program-history s.sheet in
    let B = book_after (calls_of (fed_bytes s.sheet)) in
    let S : SoundRules document B = subst (λ (C : Pages). SoundRules document C) claim.slots claim.sound.rules in
    let seen = load-book (subst (λ (f : List ℕ). LoadPrints f out) (saved-book s) p) in
    subst (λ (C : Pages). SeesLabels C out) (file-pages B S)
    (subst (λ (o : Option ℕ). LoadSeen (file_of B) o out) (file-accepted B S) seen)

-- Unless it could not be written, that file was handed to standard output, and nothing else was.
shown-whole :
    (bytes : List ℕ) {shown lost : ℕ} → Writes bytes 0 shown lost → lost ≡ 0 → Shown bytes shown 0
shown-whole bytes {shown} {lost} w e =
    let whole : take (length bytes - lost) bytes ≡ bytes = take_all (length bytes - lost) bytes (omega (arith, e)) in
    subst (Shown bytes shown) e (subst (λ (bs : List ℕ). Shown bs shown lost) whole (w.shows [] shown_none))

pub saved-shown :
    {buffer before after : List ℕ} {r : Saved} (s : SavesInput buffer before after r) → r.lost ≡ 0
    → Shown (file_of (book_after (calls_of (read_bytes s.sheet)))) r.shown 0
saved-shown {r = r} s e = subst (λ (bs : List ℕ). Shown bs r.shown 0) (saved-whole s) (shown-whole _ s.writes e)

-- And so were the lines of a file.
pub loaded-shown :
    {file out : List ℕ} {r : Listed} → LoadsInput file out r → r.lost ≡ 0
    → Shown (take r.printed out) r.shown 0
loaded-shown l e = shown-whole _ l.writes e
