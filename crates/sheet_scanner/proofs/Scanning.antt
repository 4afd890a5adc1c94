-- Laws of `Scans`: a part of a line, a line that leaves the table alone, a command, and one scan behind another.
-- Assumes nothing.
use Prim.Native.Nat.{ℕ, suc, ◌+◌, ◌-◌, ◌^◌, ◌≤◌, ◌<◌}
use native.Mathlib.Omega.{arith}
use mathlib.Core.Path.{◌≡◌, refl, sym, ◌∙◌, ap, subst}
use mathlib.Core.Bool.{true, false}
use mathlib.Core.List.{List, [], ◌++◌}
use Rattle.std.specs.Prelude.{Option, Some, None}
use lib.ListN.{length, take, drop, get_or, length-drop, length-take}
use lib.Seq.{take-add, drop-drop, get_or-drop}
use Rattle.table.specs.declared.Table.{Table}
use Rattle.places.specs.Places.{line_after}
use Rattle.places.proofs.Leading.{leading-within}
use Rattle.fields.specs.Texts.{NEWLINE}
use Rattle.fields.proofs.Wrote.{wrote_then, wrote_nothing, wrote-length}
use Rattle.sheet_lines.specs.declared.Command.{Command}
use Rattle.sheet_lines.specs.declared.Parsed.{Parsed}
use Rattle.sheet_label_lines.specs.LabelLines.{LABELS_ROOM}
use Rattle.sheet_meaning.specs.Lines.{Prints}
use Rattle.sheet_meaning.specs.Sheets.{State, longer, ended, Reads}
use Rattle.sheet_meaning.proofs.Reading.{reads_then, lines-at-most}
use Rattle.sheet_begun.specs.declared.Begun.{Begun}
use Rattle.sheet_begun.specs.Begun.{BegunOf, Longer, ReadsAs}
use Rattle.sheet_begun.proofs.Lengthening.{begun-next}
use Rattle.sheet_scanner.specs.declared.Judged.{Judged}
use Rattle.sheet_scanner.specs.declared.Judged.TheVariants as judged
use Rattle.sheet_scanner.specs.declared.FoundCommand.{FoundCommand}
use Rattle.sheet_scanner.specs.declared.Scanned.{Scanned}
use Rattle.sheet_scanner.specs.Judging.{Judges}
use Rattle.sheet_scanner.specs.Scans.{of_line, line_end, IsCommand, WhereFound, IfNothing}
use Rattle.sheet_scanner.specs.Scans.{Scans, ScansOne, ScansAll}
use Rattle.sheet_scanner.proofs.Judging.{judged-told, judged-command}
use Rattle.sheet_scanner.proofs.Reading.{reads-part, reads-line, at-end}

-- A line ends within the piece.
pub end-within : (input : List ℕ) (from : ℕ) → from ≤ length input → from + line_end (drop from input) ≤ length input
end-within input from l = omega (arith, leading-within of_line (drop from input), length-drop from input)

-- Both parts of a piece are read as one.
parts : (xs : List ℕ) (from middle end : ℕ) → from ≤ middle → middle ≤ end
    → take (end - from) (drop from xs) ≡ take (middle - from) (drop from xs) ++ take (end - middle) (drop middle xs)
parts xs from middle end l m =
    let all : end - from ≡ (middle - from) + (end - middle) = omega arith in
    let past : from + (middle - from) ≡ middle = omega arith in
    rw (all, take-add (middle - from) (end - middle) (drop from xs), drop-drop (middle - from) from xs, past)

pub reads-parts :
    {s v w : State} (input : List ℕ) (from middle end : ℕ) {out more : List ℕ} → from ≤ middle → middle ≤ end
    → Reads s (take (middle - from) (drop from input)) out v → Reads v (take (end - middle) (drop middle input)) more w
    → Reads s (take (end - from) (drop from input)) (out ++ more) w
reads-parts input from middle end l m first second = rw (parts input from middle end l m) (reads_then first second)

-- Lines that were read are no more than the bytes that were.
pub numbers_fit :
    {s v : State} (input : List ℕ) (from middle end : ℕ) {out : List ℕ} → from ≤ middle → middle ≤ end
    → Reads s (take (middle - from) (drop from input)) out v → s.number + (end - from) < 2 ^ 32
    → v.number + (end - middle) < 2 ^ 32
numbers_fit input from middle end l m reads small =
    omega (arith, length-take (middle - from) (drop from input), lines-at-most reads, small, l, m)

pub on_line :
    {t u : Table} {m n : ℕ} {line out : List ℕ} → m ≡ n → Prints t m line out u → Prints t n line out u
on_line {t} {u} {line = line} {out} e d = subst (λ (i : ℕ). Prints t i line out u) e d

-- One scan of a line, by what was found.
module _ {k : Begun} {input : List ℕ} {from end : ℕ} {before : List ℕ} {at : ℕ} (begun : from ≤ length input)
    (at-line-end : end ≡ from + line_end (drop from input)) (room : at + LABELS_ROOM ≤ length before) where
  -- The bytes of a line up to its end, or up to the end of the piece.
  scans-into :
      {held : Begun} (x : Option FoundCommand) → Longer k (take (end - from) (drop from input)) held
      → ((s : State) → BegunOf s.number s.line k → IsCommand x (s.line ++ take (end - from) (drop from input)))
      → WhereFound x input before
      (record { begun = held; read = end; printed = at; more = false; found = x })
      → Scans k input from before at before
      (record { begun = held; read = end; printed = at; more = false; found = x })
  scans-into x longer-line command where_found =
      record {
        begun = omega arith;
        read = omega (arith, end-within input from begun);
        printed = omega arith;
        same_length = refl;
        found = where_found;
        scans = λ s f small.
            record {
              state = longer s (take (end - from) (drop from input));
              printed = [];
              table = refl;
              line = longer-line s.number s.line f;
              command = command s f;
              reads = reads-part s (end - from) (drop from input) (omega arith);
              wrote = wrote_nothing (omega arith);
            };
      }

  pub scans-part :
      {held : Begun} → Longer k (take (end - from) (drop from input)) held
      → Scans k input from before at before
      (record { begun = held; read = end; printed = at; more = false; found = None })
  scans-part longer-line = scans-into None longer-line (λ s f. tt) tt

  pub scans-command :
      {held : Begun} {p : Parsed} {c : Command} {some : List ℕ} (after : List ℕ) (j : Judged) → end < length input
      → BegunOf k.number some k → Longer k (take (end - from) (drop from input)) held
      → ReadsAs k (take (end - from) (drop from input)) p → Judges p before at after j → j ≡ judged.Command c
      → Scans k input from before at after
      (record { begun = held; read = end; printed = at; more = false; found = Some (record { command = c; parsed = p }) })
  scans-command {p = p} {c} {some} after j inside f longer-line reads judges e =
      let here : get_or input end 0 ≡ NEWLINE =
      ap (λ (i : ℕ). get_or input i 0) at-line-end ∙ sym (get_or-drop from input (line_end (drop from input)) 0)
      ∙ at-end (drop from input) (omega (arith, length-drop from input)) in
      let any = judged-command _ before at after j (reads.answers _ some f) judges e in
      rw any.1
      (scans-into (Some (record { command = c; parsed = p })) longer-line
      (λ s g. (judged-command _ before at after j (reads.answers _ s.line g) judges e).0)
      (record {
        inside = inside;
        newline = here;
        room = room;
        number = reads.number ∙ sym (longer-line _ some f).number;
        within = reads.within;
        over = refl;
        line = some ++ take (end - from) (drop from input);
        command = any.0;
      }))

  -- A line that was answered without the table.
  pub scans-told :
      {p : Parsed} {next : ℕ} (after : List ℕ) (j : Judged) {r : Begun} {some : List ℕ} → end < length input
      → BegunOf k.number some k → ReadsAs k (take (end - from) (drop from input)) p
      → Judges p before at after j → j ≡ judged.Told next
      → r ≡ record { number = line_after p.place.line; bytes = k.bytes; length = 0 }
      → Scans k input from before at after
      (record { begun = r; read = end + 1; printed = next; more = true; found = None })
  scans-told {p} {next} after j {some = some} inside f reads judges e counted =
      let part = take (end - from) (drop from input) in
      let any = (judged-told (some ++ part) before at after j (reads.answers _ some f) judges e).wrote in
      record {
        begun = omega arith;
        read = omega arith;
        printed = omega (arith, any.room, any.place);
        same_length = wrote-length any;
        found = tt;
        scans = λ s g small.
            let w =
            judged-told (s.line ++ part) before at after j (reads.answers _ s.line g) judges e in
            let number = reads.number ∙ g.number in
            let past : end + 1 - from ≡ suc (end - from) = omega arith in
            let short : end - from < length (drop from input) = omega (arith, length-drop from input) in
            let prints = on_line number (w.prints s.table) in
            record {
              state = ended (longer s part) s.table;
              printed = w.printed;
              table = refl;
              line = begun-next k counted number (omega arith);
              command = tt;
              reads = rw past (reads-line s (end - from) (drop from input) (omega arith) short prints);
              wrote = w.wrote;
            };
      }

-- One scan behind another.
where-found-then :
    (input middle before : List ℕ) (r : Scanned) (x : Option FoundCommand) → length middle ≡ length before
    → WhereFound x input middle r → WhereFound x input before r
where-found-then input middle before r None e w = tt
where-found-then input middle before r (Some c) e w =
    record {
      inside = w.inside;
      newline = w.newline;
      room = omega (arith, w.room, e);
      number = w.number;
      within = w.within;
      over = w.over;
      line = w.line;
      command = w.command;
    }

pub scans-then :
    {k : Begun} {input : List ℕ} {from : ℕ} {before : List ℕ} {at : ℕ} (q : Scanned) {r : Scanned}
    {middle after : List ℕ} → Scans k input from before at middle q
    → Scans q.begun input q.read middle q.printed after r → Scans k input from before at after r
scans-then {input = input} {from} q {r} first second =
    record {
      begun = omega (arith, first.begun, second.begun);
      read = second.read;
      printed = omega (arith, second.printed, first.same_length);
      same_length = second.same_length ∙ first.same_length;
      found = where-found-then input _ _ r r.found first.same_length second.found;
      scans = λ s f small.
          let one = first.scans s f (omega (arith, small, first.begun, second.begun)) in
          let fits = numbers_fit input from q.read r.read first.begun second.begun one.reads small in
          let two = second.scans one.state one.line fits in
          record {
            state = two.state;
            printed = one.printed ++ two.printed;
            table = two.table ∙ one.table;
            line = two.line;
            command = two.command;
            reads =
                reads-parts input from q.read r.read first.begun second.begun one.reads two.reads;
            wrote = wrote_then one.wrote two.wrote;
          };
    }

-- What holds where nothing was found.
pub if-nothing : {P : Type 0} (x : Option FoundCommand) → P → IfNothing x P
if-nothing None p = p
if-nothing (Some c) p = tt

pub if-nothing-so : {P Q : Type 0} (x : Option FoundCommand) → (P → Q) → IfNothing x P → IfNothing x Q
if-nothing-so None f p = f p
if-nothing-so (Some c) f p = tt

pub scans-one-then :
    {input : List ℕ} {from : ℕ} (q r : Scanned) → q.more ≡ true → ScansOne input from q → q.read ≤ r.read
    → ScansOne input q.read r → ScansOne input from r
scans-one-then q r e first l second =
    let begun = first.more e in
    record {
      some = λ m. if-nothing r.found (omega (arith, begun, l));
      more = λ m. omega (arith, begun, l);
      ended = second.ended;
    }

-- A loop's scan behind its first: what was so of the first is so of all.
pub record Since (input first_out : List ℕ) (first : Scanned) (out : List ℕ) (r : Scanned) : Type 0 where
  pub read : r.read ≤ length input
  pub printed : r.printed ≤ length out
  pub same_length : length out ≡ length first_out
  pub since :
      (k : Begun) (from : ℕ) (before : List ℕ) (at : ℕ) → Scans k input from before at first_out first
      → ScansOne input from first → Scans k input from before at out r × ScansOne input from r

pub since-next :
    {input first_out out after : List ℕ} {first : Scanned} (q : Scanned) {r : Scanned} → q.more ≡ true
    → Since input first_out first out q → Scans q.begun input q.read out q.printed after r
    → ScansOne input q.read r → Since input first_out first after r
since-next q {r} e so_far scans one =
    record {
      read = scans.read;
      printed = omega (arith, scans.printed, scans.same_length);
      same_length = scans.same_length ∙ so_far.same_length;
      since = λ k from before at all first_one.
          let before-this = so_far.since k from before at all first_one in
          (scans-then q before-this.0 scans, scans-one-then q r e before-this.1 scans.begun one);
    }

-- A scan that ended: no more lines may be scanned, or there is no room.
pub scans-over :
    {input : List ℕ} {from : ℕ} (before : List ℕ) (r : Scanned) → ScansOne input from r → r.more ≡ false
    → ScansAll input from before r
scans-over {input} before r one e =
    record {
      some = one.some;
      ended = λ l.
          if-nothing-so r.found (λ (whole : r.read ≡ length input). absurd (omega (arith, l, whole)))
          (one.ended e);
    }

pub scans-full :
    {input : List ℕ} {from : ℕ} (before : List ℕ) (r : Scanned) → ScansOne input from r
    → length before < r.printed + LABELS_ROOM → ScansAll input from before r
scans-full before r one full = record { some = one.some; ended = λ l. if-nothing r.found full }
