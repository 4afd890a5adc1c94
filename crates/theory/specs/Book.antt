-- The plain book (specification 5): what a list of calls answers and leaves, from the calls' arguments alone. Assumes
-- nothing.
use Rattle.std.specs.Prelude.{ℕ, Bool, List, [], ◌∷◌, set, replicate}
use Rattle.std.proofs.Math.Option.{Option, none, some}
use Rattle.theory.specs.Rules.{Rule, Pages, all, new_page, with_mark}
use Rattle.theory.specs.Limits.{Limits}
use Rattle.theory.specs.Questions.{first_no, add_questions, slot_questions, replace_questions}
use Rattle.theory.specs.Questions.{lowest_free, put_in}

-- The calls that change a table. Muting sets the mark of a slot, on or off.
pub data Call : Type 0 where
  add : Rule → Call
  remove : ℕ → Call
  replace : ℕ → Rule → Call
  mute : ℕ → Bool → Call

-- An answer: a refusal's number, the slot that an addition took, or that the call was accepted.
pub data Answer : Type 0 where
  refused : ℕ → Answer
  slot : ℕ → Answer
  accepted : Answer

-- All pages are free at first.
abbrev pub empty : Limits → Pages
empty limits = replicate limits.slots none

-- The pages with a rule added: as it is kept, on the lowest free page, unmuted.
abbrev pub with_page : Pages → Rule → Pages
with_page B r = put_in B (lowest_free (all B)) (new_page r)

-- What a list of calls answers and leaves, by the step of one call: what it answers and leaves of the pages it finds.
abbrev pub step_answers : {C : Type 0} → (Pages → C → Answer) → (Pages → C → Pages) → Pages → List C → List Answer
step_answers answer after B [] = []
step_answers answer after B (c ∷ cs) = answer B c ∷ step_answers answer after (after B c) cs

abbrev pub step_pages : {C : Type 0} → (Pages → C → Pages) → Pages → List C → Pages
step_pages after B [] = B
step_pages after B (c ∷ cs) = step_pages after (after B c) cs

module _ (limits : Limits) where
  -- The first question that is answered no. They are asked of all rules held, muted or not.
  abbrev pub refusal : Pages → Call → Option ℕ
  refusal B (add r) = first_no (add_questions limits (all B) r)
  refusal B (remove s) = first_no (slot_questions limits (all B) s)
  refusal B (replace s r) = first_no (replace_questions limits (all B) s r)
  refusal B (mute s m) = first_no (slot_questions limits (all B) s)

  -- What an accepted call answers, and what it leaves: the rule on the lowest free page; the page free; the rule, as it
  -- is kept, on that page, unmuted; that page with its mark set.
  abbrev pub granted : Pages → Call → Answer
  granted B (add r) = elim (lowest_free (all B)) [ none ↦ accepted | some s ↦ slot s ]
  granted B (remove s) = accepted
  granted B (replace s r) = accepted
  granted B (mute s m) = accepted

  abbrev pub changed : Pages → Call → Pages
  changed B (add r) = with_page B r
  changed B (remove s) = set B s none
  changed B (replace s r) = set B s (some (new_page r))
  changed B (mute s m) = with_mark B s m

  -- What a call answers and leaves: at the first no, that number, and the book stays.
  unfoldable pub answer : Pages → Call → Answer
  answer B c = elim (refusal B c) [ none ↦ granted B c | some k ↦ refused k ]

  unfoldable pub after : Pages → Call → Pages
  after B c = elim (refusal B c) [ none ↦ changed B c | some k ↦ B ]

  -- What a list of calls answers and leaves.
  unfoldable pub answers : Pages → List Call → List Answer
  answers = step_answers answer after

  unfoldable pub after_all : Pages → List Call → Pages
  after_all = step_pages after
