-- One step of `replay`: the call that was read is made, and its answer told as a number. Assumes nothing.
use Rattle.std.specs.Prelude.{Option, Some, Err}
use Prim.Native.Nat.{ℕ, ◌+◌, ◌≤◌}
use native.Mathlib.Omega.{arith}
use mathlib.Core.Path.{◌≡◌, sym, ◌∙◌, ap}
use mathlib.Core.List.{List}
use mathlib.Core.Option.{some}
use Rattle.theory.specs.Book.{Answer}
use Rattle.table.specs.declared.Table.{Table}
use Rattle.refusals.specs.declared.Refusal.{Refusal}
use Rattle.refusals.specs.Refusals.{number_of}
use Rattle.refusals.proofs.Refusals.{number_small}
use Rattle.calls.specs.Answers.{AddAnswer, ChangeAnswer, book_add, book_change}
use Rattle.checklist_meaning.specs.Book.{opening, of_file}
use Rattle.checklist_meaning.specs.Book as list
use Rattle.history.specs.Calls.{Call, checklist}
use Rattle.history.specs.Claim.{Step, opens, marks}
use Rattle.history_words.specs.declared.Next.{Next}
use Rattle.history_words.specs.Reading.{call_of, NextOf}
use Rattle.history_replay.specs.Replays.{encode}
use Rattle.history_replay.specs.Steps.{CallMade, ChecklistEnds}

pub small : (f : Refusal) (n : ℕ) → n ≡ number_of f → n ≤ 22
small f n e = omega (arith, number_small f)

pub added-refused :
    (x : AddAnswer) (f : Refusal) (n : ℕ) → x ≡ Err f → n ≡ number_of f → 65536 + n ≡ encode (book_add x)
added-refused x f n e d =
    ap (λ (k : ℕ). 65536 + k) d ∙ ap (λ (y : AddAnswer). encode (book_add y)) (sym e)

pub accepted-refused :
    (x : ChangeAnswer) (f : Refusal) (n : ℕ) → x ≡ Err f → n ≡ number_of f
    → 65536 + n ≡ encode (book_change x)
accepted-refused x f n e d =
    ap (λ (k : ℕ). 65536 + k) d ∙ ap (λ (y : ChangeAnswer). encode (book_change y)) (sym e)

-- A call of a checklist is a step.
pub checklist-step :
    {t : Table} (c : list.Call) (y : ChangeAnswer) (u : Table) → ChecklistEnds t c y u
    → Step t (checklist c) (book_change y) u
checklist-step (opening n) y u E = opens E
checklist-step (of_file c) y u E = marks E

-- One step, by the call that was read.
module _ (ws files : List ℕ) (at : ℕ) (t : Table) (x : Option Next) (N : NextOf ws files at x) where
  pub step-made :
      (m z : Next) (c : Call) (b : ℕ) (y : Answer) (u : Table) (n : ℕ) → x ≡ Some m → m ≡ z
      → call_of ws files (Some z) ≡ some (record { call = c; behind = b }) → Step t c y u → n ≡ encode y
      → CallMade ws files at t n b u
  step-made m z c b y u n q d e S f = record {
    call = c;
    told = y;
    stands = sym N.read ∙ ap (call_of ws files) (q ∙ ap Some d) ∙ e;
    step = S;
    number = f;
  }
