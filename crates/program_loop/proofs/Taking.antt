-- What the task made of one read after another. Assumes nothing.
use Prim.Native.Nat.{ℕ, ◌+◌, ◌-◌, ◌*◌, ◌≤◌, ◌<◌}
use native.Mathlib.Omega.{arith}
use mathlib.Core.Path.{◌≡◌, refl, sym, ◌∙◌, ap, subst}
use mathlib.Core.List.{List, [], ◌++◌}
use lib.ListN.{length, take, drop}
use lib.Seq.{length-take-le, take-add}
use Rattle.sheet_feed.specs.declared.Sheet.{Sheet}
use Rattle.program_io.specs.Told.{Given, given_none}
use Rattle.program_loop.specs.declared.Task.{Task}
use Rattle.program_loop.specs.declared.Task.TheVariants.{Answer, Keep}
use Rattle.program_loop.specs.Takes.{SPACE, Takes, TakesRead, TakesInput}
use Rattle.program_loop.proofs.Answering.{answers-none, answers-then, answers-most}

takes_none : (task : Task) (c : Sheet) (shown : ℕ) {lost : ℕ} → lost ≡ 0 → Takes task c [] shown shown lost c
takes_none (Answer showing) c shown e = answers-none c showing shown e
takes_none Keep c shown e = (refl, refl, e)

takes-then :
    (task : Task) (c d e : Sheet) (xs ys : List ℕ) (s t u lost₀ lost : ℕ) → Takes task c xs s t lost₀ d → lost₀ ≡ 0
    → Takes task d ys t u lost e → Takes task c (xs ++ ys) s u lost e
takes-then (Answer showing) c d e xs ys s t u lost₀ lost a z b = answers-then xs ys a z b
takes-then Keep c d e xs ys s t u lost₀ lost a z b = (b.0 ∙ a.0, b.1 ∙ a.1, b.2)

takes-most :
    (task : Task) (c d : Sheet) (bytes : List ℕ) (shown₀ shown lost : ℕ) → Takes task c bytes shown₀ shown lost d
    → shown + lost ≤ shown₀ + SPACE * length bytes
takes-most (Answer showing) c d bytes shown₀ shown lost a = answers-most a
takes-most Keep c d bytes shown₀ shown lost k = omega (arith, k.1, k.2)

-- What was read so far, and what the task made of it.
pub record SoFar (task : Task) (c : Sheet) (buffer : List ℕ) (size read got shown lost : ℕ) (s : Sheet) : Type 0 where
  pub space : size ≡ SPACE
  pub few : read ≤ length buffer
  pub given : Given (take read buffer) read got
  pub takes : Takes task c (take read buffer) 0 shown lost s
  pub most : shown + lost ≤ SPACE * read

pub so-far-start :
    (task : Task) (c : Sheet) (buffer : List ℕ) {size read got shown lost : ℕ} → size ≡ SPACE → read ≡ 0 → 0 < got
    → shown ≡ 0 → lost ≡ 0 → SoFar task c buffer size read got shown lost c
so-far-start task c buffer {size} {read} {got} {shown} {lost} space r some s l =
    let nothing : take read buffer ≡ [] = ap (λ (n : ℕ). take n buffer) r in
    record {
      space = space;
      few = omega (arith, r);
      given =
          subst (λ (n : ℕ). Given (take n buffer) n got) (sym r) (given_none some);
      takes =
          subst (λ (xs : List ℕ). Takes task c xs 0 shown lost c) (sym nothing)
          (subst (λ (n : ℕ). Takes task c [] 0 n lost c) (sym s) (takes_none task c 0 l));
      most = omega (arith, s, l);
    }

-- One read more, and what the task made of the bytes that it got.
pub so_far_more :
    {task : Task} {c s d : Sheet} (buffer after : List ℕ) {size size' read got shown lost₀ read' got' shown' lost : ℕ}
    → SoFar task c buffer size read got shown lost₀ s → lost₀ ≡ 0 → size' ≡ size
    → TakesRead task s buffer read got shown after read' got' shown' lost d
    → SoFar task c after size' read' got' shown' lost d
so_far_more {task} {c} {s} {d} buffer after {read = read} {shown = shown} {lost₀ = lost₀} {read' = read'} {got' = got'}
    {shown' = shown'} {lost = lost} f e same t =
    let r = t.reads in
    let piece = take got' (drop read after) in
    let joined : take read buffer ++ piece ≡ take read' after =
    ap (λ (xs : List ℕ). xs ++ piece) (sym r.stay) ∙ sym (take-add read got' after)
    ∙ ap (λ (n : ℕ). take n after) (sym r.count) in
    let all = takes-then task c s d (take read buffer) piece 0 shown shown' lost₀ lost f.takes e t.takes in
    let takes = subst (λ (xs : List ℕ). Takes task c xs 0 shown' lost d) joined all in
    record {
      space = same ∙ f.space;
      few = r.inside;
      given = r.gives f.given;
      takes = takes;
      most =
          omega
          (arith, takes-most task c d (take read' after) 0 shown' lost takes, length-take-le read' after r.inside);
    }

pub so-far-over :
    {task : Task} {c s : Sheet} {buffer : List ℕ} {size read got shown lost : ℕ}
    → SoFar task c buffer size read got shown lost s → (lost ≡ 0 → read < length buffer → got ≡ 0)
    → TakesInput task c buffer read got shown lost s
so-far-over f ended = record { few = f.few; given = f.given; takes = f.takes; ended = ended }

-- The bytes from one place to another are those that a read got.
pub takes-got :
    (task : Task) (c d : Sheet) (input : List ℕ) (from end got shown₀ shown lost : ℕ) → end ≡ from + got
    → Takes task c (take (end - from) (drop from input)) shown₀ shown lost d
    → Takes task c (take got (drop from input)) shown₀ shown lost d
takes-got task c d input from end got shown₀ shown lost e t =
    let n : end - from ≡ got = omega (arith, e) in
    subst (λ (k : ℕ). Takes task c (take k (drop from input)) shown₀ shown lost d) n t
