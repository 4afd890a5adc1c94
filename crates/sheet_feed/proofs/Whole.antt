-- Pieces don't matter: a sheet that is fed piece by piece prints what the whole sheet prints. Assumes nothing.
use Prim.Native.Nat.{ℕ, ◌+◌, ◌-◌, ◌^◌, ◌≤◌, ◌<◌}
use native.Mathlib.Omega.{arith}
use mathlib.Core.Path.{◌≡◌, refl, sym, ap}
use mathlib.Core.List.{List, ◌++◌, append_assoc}
use lib.ListN.{length, take, length-append}
use lib.Seq.{length-take-le}
use Rattle.sheet_feed.specs.declared.Reply.{Reply}
use Rattle.sheet_label_lines.specs.LabelLines.{LABELS_ROOM}
use Rattle.fields.proofs.Wrote.{wrote-start}
use Rattle.sheet_meaning.proofs.Unique.{sheet-prints-unique}
use Rattle.sheet_meaning.proofs.Reading.{reads_then, lines-at-most}
use Rattle.sheet_feed.specs.declared.Sheet.{Sheet}
use Rattle.sheet_meaning.specs.Sheets.{State, start, Reads, stop, SheetPrints, MOST}
use Rattle.sheet_feed.specs.Sheets.{StandsFor, RepliesAt, Pieces, none, piece}

-- The state after all pieces.
record After (s : State) (input out : List ℕ) (d : Sheet) : Type 0 where
  state : State
  reads : Reads s input out state
  stands : StandsFor state d

reads-printed :
    {s v : State} {printed out : List ℕ} (input : List ℕ) (k : ℕ) → Reads s (take (k - 0) input) printed v
    → out ≡ printed → Reads s (take k input) out v
reads-printed input k r e = let all : k - 0 ≡ k = omega arith in rw (sym e) at (rw all at r)

pieces-read :
    {c d : Sheet} {input out : List ℕ} (s : State) → StandsFor s c → Pieces c input out d
    → s.number + length input < 2 ^ 32 → After s input out d
pieces-read s f none small = record { state = s; reads = stop; stands = f }
pieces-read s f (piece {input = input} {bytes = bytes} {r = r} feeds rest) small =
    let long = length-append (take r.read input) bytes in
    let first = length-take-le r.read input feeds.read in
    let one = feeds.feeds s f (omega (arith, small, long, first)) in
    let read = reads-printed input r.read one.reads (wrote-start one.wrote) in
    let two = pieces-read one.state one.stands rest (omega (arith, small, long, first, lines-at-most read)) in
    record { state = two.state; reads = reads_then read two.reads; stands = two.stands }

-- The bytes printed piece by piece, and then the reply to the last line, are all that the sheet prints, and that
-- reply's table is the one after the sheet. No line number passes 32 bits: a sheet that a program reads is too short
-- for that.
pub pieces_end :
    {c d : Sheet} {input out before after : List ℕ} {last : Reply} → StandsFor start c → Pieces c input out d
    → length input ≤ MOST → LABELS_ROOM ≤ length before → RepliesAt d before 0 after last
    → (p : SheetPrints input (out ++ take last.next after)) × (p.after ≡ last.table)
pieces_end {out = out} {last = last} f pieces few room replies =
    let end = pieces-read start f pieces (omega arith) in
    let reply = replies.replies (omega arith) end.state end.stands in (
      record {
        printed = out;
        last = reply.printed;
        before_last = end.state;
        after = last.table;
        reads = end.reads;
        prints = reply.prints;
        whole = ap (λ (bs : List ℕ). out ++ bs) (wrote-start reply.wrote);
      },
      refl,
    )

pub pieces-print :
    {c d : Sheet} {input out before after : List ℕ} {last : Reply} → StandsFor start c → Pieces c input out d
    → length input ≤ MOST → LABELS_ROOM ≤ length before → RepliesAt d before 0 after last
    → SheetPrints input (out ++ take last.next after)
pieces-print f pieces few room replies = (pieces_end f pieces few room replies).0

-- Pieces behind pieces.
pub pieces_then :
    {c d e : Sheet} {xs ys out more : List ℕ} → Pieces c xs out d → Pieces d ys more e
    → Pieces c (xs ++ ys) (out ++ more) e
pieces_then none q = q
pieces_then (piece feeds p) q = rw (append_assoc, append_assoc) (piece feeds (pieces_then p q))

-- However a sheet is cut into pieces, it prints the same.
pub pieces-same :
    {c d c' d' : Sheet} {input out out' before before' after after' : List ℕ} {last last' : Reply} → length input ≤ MOST
    → StandsFor start c → Pieces c input out d → LABELS_ROOM ≤ length before → RepliesAt d before 0 after last
    → StandsFor start c' → Pieces c' input out' d' → LABELS_ROOM ≤ length before' → RepliesAt d' before' 0 after' last'
    → out ++ take last.next after ≡ out' ++ take last'.next after'
pieces-same few f p m r g q n t = sheet-prints-unique (pieces-print f p few m r) (pieces-print g q few n t)
