-- The answer to questions 1 to 4 (specification 3.2). Assumes nothing.
use Rattle.std.specs.Prelude.{ℕ, Result, Ok, Err}
use Rattle.std.proofs.Math.Option.{Option, none, some}
use Rattle.refusals.specs.Refusals.{number_of}
use Rattle.refusals.specs.declared.Refusal.{Refusal}

-- What an answer tells: that each question is answered yes, or the number of the first that is answered no.
abbrev pub first_no_told : Result (Unit {0}) Refusal → Option ℕ
first_no_told (Ok passed) = none
first_no_told (Err f) = some (number_of f)
