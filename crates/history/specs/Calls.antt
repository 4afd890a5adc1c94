-- Every call that changes a table or hands one back, and the plain book's step for it (specification 5.2): what the
-- book answers, and its pages after. Nothing here speaks of a table. Assumes nothing.
use Rattle.std.specs.Prelude.{ℕ, List}
use Rattle.theory.specs.Rules.{Pages}
use Rattle.theory.specs.Limits.{Limits}
use Rattle.theory.specs.Book as book
use Rattle.theory.specs.Book.{Answer, answer, after, step_answers, step_pages}
use Rattle.file_blocks.specs.Book.{load_answer, load_pages}
use Rattle.checklist_meaning.specs.Book as list
use Rattle.checklist_meaning.specs.Book.{checklist_answer, checklist_after}

-- An addition, a removal, a replacement or a muting, which changes the table that it gets; a load of some bytes, which
-- gets none and hands one back; a call of a checklist: its opening, which gets no table either, or a call on a file,
-- which changes its table.
pub data Call : Type 0 where
  change : book.Call → Call
  load : List ℕ → Call
  checklist : list.Call → Call

module _ (limits : Limits) where
  -- What a call answers and leaves. Loading asks 16 to 19 of the bytes: at the first no it answers that number and all
  -- pages are free; otherwise the pages are the records. The pages before it play no part. Nor do they in an opening,
  -- which asks 21; a call on a file asks 15, 20 and 22 of the pages.
  abbrev pub call_answer : Pages → Call → Answer
  call_answer B (change c) = answer limits B c
  call_answer B (load bytes) = load_answer limits bytes
  call_answer B (checklist c) = checklist_answer limits B c

  abbrev pub call_after : Pages → Call → Pages
  call_after B (change c) = after limits B c
  call_after B (load bytes) = load_pages limits bytes
  call_after B (checklist c) = checklist_after limits B c

  -- What a list of calls answers and leaves.
  unfoldable pub calls_answers : Pages → List Call → List Answer
  calls_answers B cs = step_answers call_answer call_after B cs

  unfoldable pub calls_after : Pages → List Call → Pages
  calls_after B cs = step_pages call_after B cs
