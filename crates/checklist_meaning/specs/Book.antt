-- The plain book's step for each call of a checklist (specification 5.2): what it answers, and its pages after. It asks
-- its pages. Assumes nothing.
use Rattle.std.specs.Prelude.{ℕ, zero, suc, ◌-◌, ◌∷◌, ◌++◌, map, set, replicate}
use Rattle.std.proofs.Math.Option.{Option, none, some}
use Rattle.theory.specs.Rules.{Pages, all, new_page}
use Rattle.theory.specs.Limits.{Limits}
use Rattle.theory.specs.Questions.{first_no}
use Rattle.theory.specs.Book.{Answer, refused, accepted, empty, with_page}
use Rattle.checklist_frame.specs.Frame.{sent, skipped, fact, frame, files, first_slot}
use Rattle.checklist_meaning.specs.Questions.{FileCall, file_sent, file_skipped, skip_withdrawn, mark_questions}
use Rattle.checklist_meaning.specs.Questions.{open_questions}

-- Opening for some files, which gets no pages; a call on a file.
pub data Call : Type 0 where
  opening : ℕ → Call
  of_file : FileCall → Call

-- The pages with a fact added.
abbrev pub with_fact : Pages → ℕ → Pages
with_fact B a = with_page B (fact a)

-- File sent and file skipped add that fact, skip withdrawn removes it.
abbrev pub marks_changed : Pages → FileCall → Pages
marks_changed B (file_sent i) = with_fact B (sent i)
marks_changed B (file_skipped i) = with_fact B (skipped i)
marks_changed B (skip_withdrawn i) = set B (first_slot (fact (skipped i)) (all B)) none

module _ (limits : Limits) where
  -- A checklist just opened holds the frame, unmuted, and nothing else.
  abbrev pub opened : ℕ → Pages
  opened n = map (λ s. some (new_page (frame s))) (zero ∷ files n) ++ replicate (limits.slots - suc n) none

  -- The first question that is answered no.
  abbrev pub refusal : Pages → Call → Option ℕ
  refusal B (opening n) = first_no (open_questions n)
  refusal B (of_file c) = first_no (mark_questions B c)

  -- The pages after a call that is accepted; and after one that is refused: they stay, but for an opening, which leaves
  -- all pages free.
  abbrev pub granted : Pages → Call → Pages
  granted B (opening n) = opened n
  granted B (of_file c) = marks_changed B c

  abbrev pub left : Pages → Call → Pages
  left B (opening n) = empty limits
  left B (of_file c) = B

  -- What a call answers and leaves.
  unfoldable pub checklist_answer : Pages → Call → Answer
  checklist_answer B c = elim (refusal B c) [ none ↦ accepted | some k ↦ refused k ]

  unfoldable pub checklist_after : Pages → Call → Pages
  checklist_after B c = elim (refusal B c) [ none ↦ granted B c | some k ↦ left B c ]
