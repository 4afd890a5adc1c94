-- Pieces answered one after another. Assumes nothing.
use Prim.Native.Nat.{ℕ, ◌+◌, ◌-◌, ◌*◌, ◌≤◌, ◌<◌}
use native.Mathlib.Omega.{arith}
use mathlib.Core.Path.{◌≡◌, refl, sym, ◌∙◌, ap, subst}
use mathlib.Core.Bool.{Bool, true, false}
use mathlib.Core.List.{List, [], ◌++◌, append-nil}
use lib.ListN.{length, take, drop, length-take, length-append, length-drop}
use lib.Seq.{length-take-le, take_all, take-add, take-take, take-append-add}
use Rattle.sheet_feed.specs.declared.Sheet.{Sheet}
use Rattle.sheet_feed.specs.declared.Fed.{Fed}
use Rattle.sheet_feed.specs.Sheets.{Feeds}
use Rattle.sheet_feed.specs.Sheets.{Pieces, none, piece}
use Rattle.sheet_feed.proofs.Whole.{pieces_then}
use Rattle.program_io.specs.Told.{shown_of, Writes}
use Rattle.program_io.proofs.Writing.{writes-none, writes_then, shown-append, shown-nil}
use Rattle.program_loop.specs.Takes.{SPACE, Answers}

-- No byte, and one list of bytes behind another of which none were lost.
pub answers-none :
    (c : Sheet) (showing : Bool) (shown : ℕ) {lost : ℕ} → lost ≡ 0 → Answers c showing [] shown shown lost c
answers-none c showing shown {lost} e =
    record {
      fed = 0;
      printed = [];
      few = omega arith;
      pieces = none;
      whole = λ _. refl;
      writes =
          subst (λ (xs : List ℕ). Writes xs shown shown lost) (sym (shown-nil showing)) (writes-none shown lost e);
      most = omega arith;
    }

pub answers-then :
    {c d e : Sheet} {showing : Bool} (xs ys : List ℕ) {s t u lost₀ lost : ℕ} → Answers c showing xs s t lost₀ d
    → lost₀ ≡ 0 → Answers d showing ys t u lost e → Answers c showing (xs ++ ys) s u lost e
answers-then {c} {e = e} {showing = showing} xs ys {s} {u = u} {lost = lost} a z b =
    let all = a.whole z in
    let before : take a.fed xs ≡ xs = take_all a.fed xs (omega (arith, all)) in
    let joined : take a.fed xs ++ take b.fed ys ≡ take (a.fed + b.fed) (xs ++ ys) =
    ap (λ (zs : List ℕ). zs ++ take b.fed ys) before ∙ sym (take-append-add xs ys b.fed)
    ∙ ap (λ (k : ℕ). take (k + b.fed) (xs ++ ys)) (sym all) in
    let long = length-append xs ys in
    record {
      fed = a.fed + b.fed;
      printed = a.printed ++ b.printed;
      few = omega (arith, a.few, b.few, long);
      pieces =
          subst (λ (zs : List ℕ). Pieces c zs (a.printed ++ b.printed) e) joined
          (pieces_then a.pieces b.pieces);
      whole = λ w. omega (arith, all, b.whole w, long);
      writes =
          subst (λ (zs : List ℕ). Writes zs s u lost) (shown-append showing a.printed b.printed)
          (writes_then a.writes z b.writes);
      most = omega (arith, a.most, b.most, length-append a.printed b.printed);
    }

-- The bytes that one feeding read. It reads at least a byte, so the space of a buffer is enough for what that prints.
answers-fed :
    {c : Sheet} (showing : Bool) (input : List ℕ) {before after : List ℕ} {r : Fed} {shown₀ shown lost : ℕ}
    → Feeds c input 0 before 0 r after → length before ≡ SPACE → 0 < r.read
    → Writes (shown_of showing (take r.printed after)) shown₀ shown lost
    → Answers c showing (take r.read input) shown₀ shown lost r.sheet
answers-fed {c} showing input {before} {after} {r} f space some writes =
    let printed = take r.printed after in
    let size : length (take r.read input) ≡ r.read = length-take-le r.read input f.read in
    let fed : Pieces c (take r.read input) printed r.sheet =
    subst (λ (ys : List ℕ). Pieces c ys printed r.sheet) (append-nil (take r.read input))
    (subst (λ (ys : List ℕ). Pieces c (take r.read input ++ []) ys r.sheet) (append-nil printed)
    (piece f none)) in
    record {
      fed = r.read;
      printed = printed;
      few = omega (arith, size);
      pieces =
          subst (λ (ys : List ℕ). Pieces c ys printed r.sheet)
          (sym (take-take r.read r.read input (omega arith))) fed;
      whole = λ _. sym size;
      writes = writes;
      most =
          omega (
            arith,
            length-take-le r.printed after (omega (arith, f.printed, f.same_length)),
            f.printed,
            space,
            some,
          );
    }

-- The rest of a piece.
pub part_length : (from : ℕ) (xs : List ℕ) → length (take (length xs - from) (drop from xs)) ≡ length xs - from
part_length from xs = omega (arith, length-take (length xs - from) (drop from xs), length-drop from xs)

-- What was answered of a piece so far, with so much space in the buffer.
pub record PieceSoFar (c : Sheet) (showing : Bool) (input : List ℕ) (size shown₀ shown lost : ℕ) (s : Sheet)
    (from : ℕ) : Type 0 where
  pub space : size ≡ SPACE
  pub few : from ≤ length input
  pub answers : Answers c showing (take from input) shown₀ shown lost s

pub piece-start :
    (c : Sheet) (showing : Bool) (input : List ℕ) {size : ℕ} (shown : ℕ) {lost : ℕ} → size ≡ SPACE
    → lost ≡ 0 → PieceSoFar c showing input size shown shown lost c 0
piece-start c showing input shown space e =
    record { space = space; few = omega arith; answers = answers-none c showing shown e }

pub piece-more :
    {c s : Sheet} {showing : Bool} (input : List ℕ) {shown₀ shown shown' lost₀ lost from : ℕ}
    {before after : List ℕ} {r : Fed} → PieceSoFar c showing input (length before) shown₀ shown lost₀ s from → lost₀ ≡ 0
    → Feeds s (take (length input - from) (drop from input)) 0 before 0 r after → 0 < r.read
    → Writes (shown_of showing (take r.printed after)) shown shown' lost
    → PieceSoFar c showing input (length after) shown₀ shown' lost r.sheet (from + r.read)
piece-more {c} {showing = showing} input {shown₀} {shown' = shown'} {lost = lost} {from = from} {r = r} p e f some w =
    let rest = take (length input - from) (drop from input) in
    let same = take_all (length input - from) (drop from input) (omega (arith, length-drop from input)) in
    let joined : take from input ++ take r.read rest ≡ take (from + r.read) input =
    ap (λ (ys : List ℕ). take from input ++ take r.read ys) same ∙ sym (take-add from r.read input) in
    record {
      space = f.same_length ∙ p.space;
      few = omega (arith, f.read, part_length from input, p.few);
      answers =
          subst (λ (ys : List ℕ). Answers c showing ys shown₀ shown' lost r.sheet) joined
          (answers-then (take from input) (take r.read rest) p.answers e
          (answers-fed showing rest f p.space some w));
    }

pub piece-over :
    {c s : Sheet} {showing : Bool} (input : List ℕ) {size shown₀ shown lost from : ℕ}
    → PieceSoFar c showing input size shown₀ shown lost s from → (lost ≡ 0 → from ≡ length input)
    → Answers c showing input shown₀ shown lost s
piece-over {c} {s} {showing} input {from = from} p whole =
    let a = p.answers in
    let size = length-take-le from input p.few in
    record {
      fed = a.fed;
      printed = a.printed;
      few = omega (arith, a.few, size, p.few);
      pieces =
          subst (λ (ys : List ℕ). Pieces c ys a.printed s)
          (take-take a.fed from input (omega (arith, a.few, size))) a.pieces;
      whole = λ e. omega (arith, a.whole e, size, whole e);
      writes = a.writes;
      most = a.most;
    }

-- No more bytes are handed than so many for each byte that was fed.
shown-few : (showing : Bool) (bytes : List ℕ) → length (shown_of showing bytes) ≤ length bytes
shown-few true bytes = omega arith
shown-few false bytes = omega arith

pub answers-most :
    {c d : Sheet} {showing : Bool} {bytes : List ℕ} {shown₀ shown lost : ℕ}
    → Answers c showing bytes shown₀ shown lost d → shown + lost ≤ shown₀ + SPACE * length bytes
answers-most {showing = showing} a =
    omega (arith, a.writes.count, a.most, a.few, shown-few showing a.printed)
