-- The plain book's step for loading (specification 5.2): it asks 16 to 19 of the bytes. At the first no it answers that
-- number and all pages are free; otherwise its pages are the records, and the answer is that it was accepted. Assumes
-- nothing.
use Rattle.std.specs.Prelude.{ℕ, List}
use Rattle.std.proofs.Math.Option.{none, some}
use Rattle.theory.specs.Rules.{Pages}
use Rattle.theory.specs.Limits.{Limits}
use Rattle.theory.specs.Questions.{first_no}
use Rattle.theory.specs.Book.{Answer, refused, accepted, empty}
use Rattle.file_blocks.specs.Questions.{file_questions, pages_of}

module _ (limits : Limits) where
  unfoldable pub load_answer : List ℕ → Answer
  load_answer bytes = elim (first_no (file_questions limits bytes)) [ none ↦ accepted | some k ↦ refused k ]

  unfoldable pub load_pages : List ℕ → Pages
  load_pages bytes = elim
      (first_no (file_questions limits bytes)) [ none ↦ pages_of limits bytes | some k ↦ empty limits ]
