-- Laws of `Feeds` and `RepliesAt`: nothing fed, one part behind another, a scan, a command, a reply. Assumes nothing.
use Rattle.std.specs.Prelude.{Option, Some, Ok, Err}
use Prim.Native.Nat.{ℕ, zero, suc, ◌+◌, ◌-◌, ◌≤◌, ◌<◌}
use native.Mathlib.Omega.{arith}
use mathlib.Core.Path.{◌≡◌, refl, sym, ◌∙◌, ap, subst}
use mathlib.Core.Bool.{Bool, true, cond}
use mathlib.Core.List.{List, [], ◌∷◌, ◌++◌, append-nil}
use lib.Dec.{leb}
use lib.ListN.{length, take, drop, get_or, length-drop}
use lib.Seq.{take-suc, get_or-drop}
use borrow.Author.Tests.{leb-true, le-leb}
use mir.Val.{Val}
use denote.Struct.Declared.{row}
use denote.Laws.{Is}
use Rattle.table.specs.declared.Table.{Table}
use Rattle.calls.specs.Answers.{ChangeAnswer}
use Rattle.refusals.specs.declared.Refusal.TheVariants.{BufferTooShort}
use Rattle.places.specs.Places.{line_after}
use Rattle.fields.specs.Texts.{NEWLINE}
use Rattle.fields.specs.Written.{Wrote}
use Rattle.fields.proofs.Wrote.{wrote_then, wrote_nothing, wrote-length}
use Rattle.sheet_lines.specs.declared.Command.{Command}
use Rattle.sheet_lines.specs.declared.Parsed.{Parsed}
use Rattle.sheet_lines.specs.Readings.{is, reading, command_of, positives_in, negatives_in, Answers}
use Rattle.sheet_label_lines.specs.LabelLines.{LABELS_ROOM}
use Rattle.sheet_meaning.specs.Lines.{Prints}
use Rattle.sheet_meaning.specs.Sheets.{ended, Reads, stop, newline}
use Rattle.sheet_begun.specs.declared.Begun.{Begun}
use Rattle.sheet_begun.specs.Begun.{ENOUGH, BegunOf, ReadsAs}
use Rattle.sheet_begun.proofs.Lengthening.{begun-next}
use Rattle.sheet_scanner.specs.declared.Judged.{Judged}
use Rattle.sheet_scanner.specs.declared.Judged.TheVariants as judged
use Rattle.sheet_scanner.specs.declared.FoundCommand.{FoundCommand}
use Rattle.sheet_scanner.specs.declared.Scanned.{Scanned}
use Rattle.sheet_scanner.specs.Judging.{Judges}
use Rattle.sheet_scanner.specs.Scans.{IsCommand, AtCommand, WhereFound, Scans}
use Rattle.sheet_scanner.proofs.Judging.{judged-told, judged-command}
use Rattle.sheet_scanner.proofs.Scanning.{reads-parts, numbers_fit, on_line}
use Rattle.sheet_commands.specs.declared.Obeyed.{Obeyed}
use Rattle.sheet_commands.specs.Commands.{Obeys}
use Rattle.sheet_feed.specs.declared.Sheet.{Sheet}
use Rattle.sheet_feed.specs.declared.Fed.{Fed}
use Rattle.sheet_feed.specs.Sheets.{answer_in, Feeds, RepliesAt}
use Rattle.sheet_feed.specs.contracts.Sheet as sheet-type

-- The answer of question 11, by its sides.
pub answer-room : {left : ℕ} → LABELS_ROOM ≤ left → Ok tt ≡ answer_in left
answer-room {left} l =
    sym (ap (λ b. cond b (Ok tt) (Err (BufferTooShort LABELS_ROOM))) (le-leb LABELS_ROOM left l))

-- The test for room, by its sides.
pub has : (at length : ℕ) {b : Bool} → b ≡ leb LABELS_ROOM (length - at) → b ≡ true → at + LABELS_ROOM ≤ length
has at length e f = omega (arith, leb-true LABELS_ROOM (length - at) (sym e ∙ f))

-- The bytes of a sheet's line at hand.
pub sheet-sized : (c : Sheet) (vs : List Val) → Is (row sheet-type.the_type) c vs → length c.begun.bytes ≡ ENOUGH
sheet-sized c vs p = p.1.1.1.0.1.1.1.0.1.0.1

-- Nothing is read.
pub feeds-nothing :
    (c : Sheet) (input : List ℕ) (from : ℕ) (before : List ℕ) (at : ℕ) (a : ChangeAnswer) → from ≤ length input
    → at ≤ length before
    → Feeds c input from before at (record { sheet = c; read = from; printed = at; answer = a }) before
feeds-nothing c input from before at a l m =
    let none : from - from ≡ 0 = omega arith in
    record {
      begun = omega arith;
      read = l;
      printed = m;
      same_length = refl;
      feeds = λ s f small.
          record { state = s; printed = []; stands = f; reads = rw none stop; wrote = wrote_nothing m };
    }

-- One part of a piece behind another.
pub feeds-then :
    {c : Sheet} {input : List ℕ} {from : ℕ} {before : List ℕ} {at : ℕ} {f r : Fed} {middle after : List ℕ}
    → Feeds c input from before at f middle
    → Feeds f.sheet input f.read middle f.printed r after → Feeds c input from before at r after
feeds-then {input = input} {from} {f = f} {r} first second =
    record {
      begun = omega (arith, first.begun, second.begun);
      read = second.read;
      printed = omega (arith, second.printed, first.same_length);
      same_length = second.same_length ∙ first.same_length;
      feeds = λ s stands small.
          let one = first.feeds s stands (omega (arith, small, first.begun, second.begun)) in
          let fits = numbers_fit input from f.read r.read first.begun second.begun one.reads small in
          let two = second.feeds one.state one.stands fits in
          record {
            state = two.state;
            printed = one.printed ++ two.printed;
            stands = two.stands;
            reads =
                reads-parts input from f.read r.read first.begun second.begun one.reads two.reads;
            wrote = wrote_then one.wrote two.wrote;
          };
    }

pub at-command : (input before : List ℕ) (r : Scanned) {f : FoundCommand} (x : Option FoundCommand) → x ≡ Some f
    → WhereFound x input before r → AtCommand f input before r
at-command input before r x e w = subst (λ (y : Option FoundCommand). WhereFound y input before r) e w

is-command : (line : List ℕ) {f : FoundCommand} (x : Option FoundCommand) → x ≡ Some f → IsCommand x line
    → reading line ≡ is (command_of f.command (positives_in f.parsed) (negatives_in f.parsed))
is-command line x e w = subst (λ (y : Option FoundCommand). IsCommand y line) e w

kept_table : {t z : Table} {n : ℕ} {line bs : List ℕ} → t ≡ z → Prints z n line bs z → Prints z n line bs t
kept_table {z = z} {n} {line} {bs} e p = subst (λ (x : Table). Prints z n line bs x) (sym e) p

met : {t z u : Table} {n : ℕ} {line bs : List ℕ} → t ≡ z → Prints t n line bs u → Prints z n line bs u
met {u = u} {n} {line} {bs} e p = subst (λ (x : Table). Prints x n line bs u) e p

-- The newline that comes next.
one-newline : (input : List ℕ) (from : ℕ) → from < length input → get_or input from 0 ≡ NEWLINE
    → take (from + 1 - from) (drop from input) ≡ NEWLINE ∷ []
one-newline input from l e =
    let one : from + 1 - from ≡ suc zero = omega arith in
    let here = get_or-drop from input 0 0 ∙ ap (λ (i : ℕ). get_or input i 0) (omega arith) ∙ e in
    rw (one, take-suc (drop from input) zero 0 (omega (arith, length-drop from input)), here)

-- A scan up to a command, and the command obeyed.
pub feeds-obeyed :
    {c : Sheet} {input : List ℕ} {from : ℕ} {before : List ℕ} {at : ℕ} {middle after : List ℕ} (r : Scanned)
    {found : FoundCommand} {o : Obeyed} {next : Begun} (a : ChangeAnswer) → Scans c.begun input from before at middle r
    → r.found ≡ Some found
    → Obeys c.table found.parsed.place.line
    (command_of found.command (positives_in found.parsed) (negatives_in found.parsed)) middle r.printed after o
    → next ≡ record { number = line_after found.parsed.place.line; bytes = r.begun.bytes; length = 0 }
    → Feeds c input from before at
    (record {
      sheet = record { table = o.table; begun = next };
      read = r.read + 1;
      printed = o.next;
      answer = a;
    }) after
feeds-obeyed {c} {input} {from} {before} r {o = o} a h e obeys counted =
    let found_Here = at-command input before r r.found e h.found in
    let any = (obeys found_Here.line found_Here.command).wrote in
    record {
      begun = omega (arith, h.begun);
      read = omega (arith, found_Here.inside);
      printed = omega (arith, any.room, any.place, h.same_length);
      same_length = wrote-length any ∙ h.same_length;
      feeds = λ s f small.
          let w = h.scans s f.line (omega (arith, small, h.begun)) in
          let v = w.state in
          let fits =
          numbers_fit input from r.read (r.read + 1) h.begun (omega arith) w.reads small in
          let number = found_Here.number ∙ w.line.number in
          let d = obeys v.line (is-command v.line r.found e w.command) in
          let prints = met (f.table ∙ sym w.table) (on_line number d.prints) in
          let last : Reads v (take (r.read + 1 - r.read) (drop r.read input)) d.printed (ended v o.table) =
          rw (one-newline input r.read found_Here.inside found_Here.newline)
          (rw append-nil at (newline prints stop)) in
          record {
            state = ended v o.table;
            printed = w.printed ++ d.printed;
            stands = record { table = refl; line = begun-next r.begun counted number (omega (arith, fits)) };
            reads = reads-parts input from r.read (r.read + 1) h.begun (omega arith) w.reads last;
            wrote = wrote_then w.wrote d.wrote;
          };
    }

read_here : {n : ℕ} {k : Begun} {p : Parsed} (line : List ℕ) → ReadsAs k [] p → BegunOf n line k
    → Answers (reading line) p
read_here line reads g = rw append-nil at (reads.answers _ line g)

-- The reply to the line at hand: it was answered without the table, or obeyed as a command. Its bounds are those of
-- some line that is at hand.
module _ (c : Sheet) {before : List ℕ} {at : ℕ} {p : Parsed} {some : List ℕ} (room : at + LABELS_ROOM ≤ length before)
    (f : BegunOf c.begun.number some c.begun) (reads : ReadsAs c.begun [] p) where
  pub replies-told :
      (after : List ℕ) (j : Judged) {next : ℕ} → Judges p before at after j → j ≡ judged.Told next
      → RepliesAt c before at after (record { table = c.table; next = next; answer = Ok tt })
  replies-told after j judges e =
      let any = (judged-told some before at after j (read_here some reads f) judges e).wrote in
      record {
        inside = λ l. omega (arith, any.room, any.place);
        same_length = wrote-length any;
        answer = answer-room {left = length before - at} (omega arith);
        replies = λ l s g.
            let w = judged-told s.line before at after j (read_here s.line reads g.line) judges e in
            record {
              printed = w.printed;
              prints = kept_table g.table (on_line (reads.number ∙ g.line.number) (w.prints s.table));
              wrote = w.wrote;
            };
        short = λ l. absurd (l room);
      }

  pub replies-obeyed :
      (middle after : List ℕ) (j : Judged) {command : Command} {o : Obeyed} → Judges p before at middle j
      → j ≡ judged.Command command
      → Obeys c.table p.place.line (command_of command (positives_in p) (negatives_in p)) middle at after o
      → RepliesAt c before at after (record { table = o.table; next = o.next; answer = Ok tt })
  replies-obeyed middle after j {o = o} judges e obeys =
      let known = judged-command some before at middle j (read_here some reads f) judges e in
      let any = (obeys some known.0).wrote in
      record {
        inside = λ l. omega (arith, any.room, any.place, ap length known.1);
        same_length = wrote-length any ∙ ap length known.1;
        answer = answer-room {left = length before - at} (omega arith);
        replies = λ l s g.
            let is-so = judged-command s.line before at middle j (read_here s.line reads g.line) judges e in
            let w = obeys s.line is-so.0 in
            record {
              printed = w.printed;
              prints = met g.table (on_line (reads.number ∙ g.line.number) w.prints);
              wrote = subst (λ (b : List ℕ). Wrote w.printed b at after o.next) known.1 w.wrote;
            };
        short = λ l. absurd (l room);
      }

-- A piece fed so far: where nothing was read nothing is printed, and without room for a reply nothing is read.
pub record FedSoFar (c : Sheet) (input before : List ℕ) (r : Fed) (after : List ℕ) : Type 0 where
  pub feeds : Feeds c input 0 before 0 r after
  pub answer : r.answer ≡ answer_in (length before)
  pub start : r.read ≡ 0 → r.printed ≡ 0
  pub none : length before < LABELS_ROOM → r.read ≡ 0

pub fed-start :
    (c : Sheet) (input before : List ℕ) {a : ChangeAnswer} → a ≡ answer_in (length before)
    → FedSoFar c input before (record { sheet = c; read = 0; printed = 0; answer = a }) before
fed-start c input before {a} e =
    record {
      feeds = feeds-nothing c input 0 before 0 a (omega arith) (omega arith);
      answer = e;
      start = λ _. refl;
      none = λ _. refl;
    }

pub fed-next :
    {c : Sheet} {input before middle after : List ℕ} (f : Fed) {r : Fed} → FedSoFar c input before f middle
    → Feeds f.sheet input f.read middle f.printed r after → f.read < r.read → r.answer ≡ Ok tt
    → f.printed + LABELS_ROOM ≤ length middle → FedSoFar c input before r after
fed-next {before = before} f so_far more some accepted room =
    let fits : LABELS_ROOM ≤ length before = omega (arith, room, so_far.feeds.same_length) in
    record {
      feeds = feeds-then so_far.feeds more;
      answer = accepted ∙ answer-room {left = length before} fits;
      start = λ e. absurd (omega (arith, e, some));
      none = λ l. absurd (omega (arith, l, fits));
    }
